-- What accept_case answers, with its arrays: what one who values the plan starts from.
use Prim.Native.Nat.{ℕ, zero, suc, ◌≤◌, ◌<◌}
use mathlib.Core.Path.{◌≡◌, refl, ap}
use mathlib.Core.List.{List}
use lib.ListN.{length}
use native.Mathlib.Omega.{arith}
use Rattle.plan.specs.declared.Plan.{Plan}
use Rattle.plan.specs.declared.Member.{Member}
use Rattle.rules.specs.Outcome.{Outcome, values, refusal}
use Rattle.whole_walk.specs.declared.Outline.{Outline}
use Rattle.walk.specs.Lines.{most_members}
use Rattle.walk.specs.Walk.{Case, valued_plan}
use Rattle.amendments.specs.Judging.{most_amendments}
use Rattle.amendments.proofs.Keeping.{list_kept, few_listed}
use Rattle.rule_order.proofs.ValuedLaws.{amended_kept, valued_is_accepted}
use Rattle.amend_lines.specs.Array.{list_array}
use Rattle.amend_lines.proofs.ArrayLaws.{list_front, list_size}
use Rattle.walk.specs.Kept.{id_before, AcceptedCase}
use Rattle.walk.proofs.Accepted.{accepted_keeps}
use Rattle.members.specs.Array.{array_of}
use Rattle.members.proofs.ArrayLaws.{array_member}
use Rattle.casefile.specs.Answers.{accepting_of, accepted, accepting}
use Rattle.casefile.specs.Stored.{amendments_after, rows_after, members_after, id_before_at, AcceptedArrays, AcceptedLists, AcceptedFillsArrays}

before_at : (l : List Member) (j : ℕ) → j < length l → length l ≤ most_members → id_before_at (array_of l) j ≡ id_before l j
before_at l zero h few = refl
before_at l (suc j) h few = ap (λ (m : Member). m.id) (array_member l j (omega arith) few)

arrays : (c : Case) → AcceptedCase c → AcceptedArrays (valued_plan c) (length c.members) c.rows (array_of c.members)
arrays c a =
    record {
      plan = valued_is_accepted c.plan c.amends c.rows a.plan;
      few = a.few;
      member = λ j h. rw (before_at c.members j h a.few, array_member c.members j h a.few) (a.member j h);
    }

lists : (c : Case) → AcceptedCase c → AcceptedLists c.plan (length c.amends) (length c.members) (list_array c.amends) c.rows (array_of c.members)
lists c a =
    let list = (amended_kept c.plan c.amends c.rows a.plan).1 in
    let few : length c.amends ≤ most_amendments = few_listed c.amends (list_kept c.plan c.amends list).0 in
    let front = list_front c.amends refl few in
    record { room = omega (arith, few, list_size c.amends); list = rw front list; valued = rw front (arrays c a) }

pub same_outline : {a b : Outline} → values a ≡ values b → a ≡ b
same_outline e = cc

accepted_of : (o : Outcome Case) {p : Plan} {k n : ℕ} {amendments rows members : List (List ℕ)} (old_amendments old_rows old_members : List (List ℕ)) → ((c : Case) → o ≡ values c → AcceptedCase c) → accepted p k n ≡ accepting o → amendments ≡ amendments_after o old_amendments → rows ≡ rows_after o old_rows → members ≡ members_after o old_members → AcceptedLists p k n amendments rows members
accepted_of (values c) {p} {k} {n} old_amendments old_rows old_members is answer list table array =
    let same = same_outline answer in
    let terms : p ≡ c.plan = ap (λ (o : Outline). o.plan) same in
    let many : k ≡ length c.amends = ap (λ (o : Outline). o.amendments) same in
    let count : n ≡ length c.members = ap (λ (o : Outline). o.members) same in
    rw (terms, many, count, list, table, array) (lists c (is c refl))
accepted_of (refusal j l) old_amendments old_rows old_members is answer list table array =
    let z : ◌≡◌ {A = ℕ} 0 1 = cc in absurd (omega arith)

-- the values of an accepted file keep every rule
pub accepted_case : (s : List ℕ) (c : Case) → accepting_of s ≡ values c → AcceptedCase c
unfolding accepting_of
accepted_case s c e = (accepted_keeps s c e).1

pub accepted_arrays : AcceptedFillsArrays
accepted_arrays s p k n amendments old_amendments rows old_rows members old_members = accepted_of (accepting_of s) old_amendments old_rows old_members (accepted_case s)
