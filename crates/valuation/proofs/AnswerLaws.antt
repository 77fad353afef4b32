-- From what accepting hands on to the answer, and from the two answers to what the program prints.
use mathlib.Core.Path.{◌≡◌, refl, sym, ◌∙◌, ap, subst⁻¹}
use mathlib.Core.Bool.{Bool, true, false, cond}
use mathlib.Core.List.{List, []}
use Prim.Native.Nat.{ℕ, zero, suc, ◌^◌, ◌≤◌, ◌<◌}
use native.Mathlib.Omega.{arith}
use borrow.Author.Tests.{le-leb}
use lib.Dec.{leb}
use lib.ListN.{length, get_or, take}
use lib.Seq.{take-suc, take-length}
use Rattle.std.proofs.lemmas.List.{get_or-take, length-take-le}
use Rattle.plan.specs.Numbers.{member_from}
use Rattle.plan.specs.declared.Plan.{Plan}
use Rattle.plan.specs.declared.Member.{Member}
use Rattle.plan.specs.Ranges.{MemberRanges}
use Rattle.rule_order.proofs.Facts.{id_small, member_facts}
use Rattle.members.specs.Array.{member_at, array_of}
use Rattle.members.proofs.ArrayLaws.{array_member}
use Rattle.std.specs.declared.result.Result.{Result}
use Rattle.std.specs.declared.result.Result.TheVariants.{Ok, Err}
use Rattle.std.specs.Result.{IsOk, result_or}
use Rattle.rules.specs.declared.refusals.Refused.{Refused}
use Rattle.rules.specs.Refusals.{number}
use Rattle.rules.specs.Outcome.{Outcome, values, refusal, and_then, outcome}
use Rattle.rules.proofs.RefusalLaws.{number_small}
use Rattle.amendments.specs.Force.{amendments_from, as_valued}
use Rattle.amendments.proofs.Keeping.{list_kept, few_listed}
use Rattle.rule_order.proofs.ValuedLaws.{amended_kept}
use Rattle.walk.specs.Walk.{Case, valued_plan}
use Rattle.amend_lines.specs.Array.{list_array}
use Rattle.amend_lines.proofs.ArrayLaws.{list_front}
use Rattle.walk.specs.Kept.{AcceptedCase, nobody}
use Rattle.whole_walk.specs.declared.Outline.{Outline}
use Rattle.casefile.specs.Answers.{accepting_of, accepted, accepting}
use Rattle.casefile.specs.Stored.{id_before_at, amendments_after, rows_after, members_after, AcceptedArrays}
use Rattle.casefile.proofs.Arrays.{same_outline, accepted_case}
use Rattle.all_figures.specs.Worked.{members_in, AcceptedMembers, AreWorked}
use Rattle.all_figures.proofs.WorkedLaws.{worked_small}
use Rattle.report.specs.Lines.{printed, refusal_line}
use Rattle.report.specs.MemberLines.{ShortLines}
use Rattle.report.proofs.PrintedLaws.{refusal_line_most}
use Rattle.fitting.specs.Fitting.{fitting, answer, buffer}
use Rattle.valuation.specs.Answers.{valued_of, or_refusal, program_of}

-- ---- what accepting hands on
in_array : (a : List (List ℕ)) (l : List Member) → ((j : ℕ) → j < length l → member_at a j ≡ get_or l j nobody) → (n : ℕ) → n ≤ length l → members_in a n ≡ take n l
unfolding members_in
in_array a l is zero h = refl
in_array a l is (suc n) h = rw (in_array a l is n (omega arith), is n (omega arith), take-suc l n nobody (omega arith))

-- the members of the array are the case's
pub array_members : (l : List Member) → length l ≤ 1000 → members_in (array_of l) (length l) ≡ l
array_members l few =
    in_array (array_of l) l (λ j h. array_member l j h few) (length l) (omega arith) ∙ take-length l

pub accepted_members : {p : Plan} {n : ℕ} {rows : List (List ℕ)} {members : List (List ℕ)} → AcceptedArrays p n rows members → AcceptedMembers p rows members n
accepted_members {p} {n} {rows} {members} a =
    record {
      plan = a.plan;
      few = a.few;
      id = λ j h. id_small p rows (id_before_at members j) (member_at members j) (a.member j h);
      member = λ j h. member_facts p rows (id_before_at members j) (member_at members j) a.plan (a.member j h);
    }

-- the used part of the array is its members: member by member, all of them, and accepted as they are
member_front : (a : List (List ℕ)) (n j : ℕ) → j < n → member_at (take n a) j ≡ member_at a j
member_front a n j h = ap member_from (get_or-take n a j [] h)

first_front : (a : List (List ℕ)) (n k : ℕ) → k ≤ n → members_in (take n a) k ≡ members_in a k
unfolding members_in
first_front a n zero h = refl
first_front a n (suc k) h = rw (first_front a n k (omega arith), member_front a n k (omega arith)) refl

pub members_front : (a : List (List ℕ)) (n : ℕ) → n ≤ length a → members_in (take n a) (length (take n a)) ≡ members_in a n
members_front a n h = rw (length-take-le n a h) (first_front a n n (omega arith))

pub accepted_front : {p : Plan} {rows : List (List ℕ)} (a : List (List ℕ)) (n : ℕ) → n ≤ length a → AcceptedMembers p rows a n → AcceptedMembers p rows (take n a) (length (take n a))
accepted_front {p} {rows} a n h k =
    rw (length-take-le n a h)
    (record {
      plan = k.plan;
      few = k.few;
      id = λ j l. subst⁻¹ (λ (m : Member). m.id ≤ 999999999) (member_front a n j l) (k.id j l);
      member = λ j l. subst⁻¹ (MemberRanges p rows) (member_front a n j l) (k.member j l);
    })

-- an array that holds their figures makes short lines
pub short_lines : (p : Plan) (rows members worked : List (List ℕ)) (n : ℕ) → AcceptedMembers p rows members n → AreWorked p rows members worked n → ShortLines members worked n
short_lines p rows members worked n a is j h = (a.id j h, worked_small p rows members worked n a is j h)

-- the amendments at the front of the array are the case's
array_list : (c : Case) → AcceptedCase c → amendments_from (take (length c.amends) (list_array c.amends)) ≡ c.amends
array_list c a =
    let list = (amended_kept c.plan c.amends c.rows a.plan).1 in
    list_front c.amends refl (few_listed c.amends (list_kept c.plan c.amends list).0)

valued_by : (o : Outcome Case) (room : ℕ) {p : Plan} {k n : ℕ} {amendments rows members : List (List ℕ)} (old_amendments old_rows old_members : List (List ℕ)) → ((c : Case) → o ≡ values c → AcceptedCase c) → accepted p k n ≡ accepting o → amendments ≡ amendments_after o old_amendments → rows ≡ rows_after o old_rows → members ≡ members_after o old_members → fitting room (printed (as_valued p (amendments_from (take k amendments))) rows (members_in members n)) ≡ and_then o (λ c. fitting room (printed (valued_plan c) c.rows c.members))
valued_by (values c) room {p} {k} {n} old_amendments old_rows old_members is said list table array =
    let same = same_outline said in
    let terms : p ≡ c.plan = ap (λ (o : Outline). o.plan) same in
    let many : k ≡ length c.amends = ap (λ (o : Outline). o.amendments) same in
    let count : n ≡ length c.members = ap (λ (o : Outline). o.members) same in
    rw (terms, many, count, list, table, array, array_members c.members (is c refl).few, array_list c (is c refl))
valued_by (refusal n l) room old_amendments old_rows old_members is said list table array =
    let z : ◌≡◌ {A = ℕ} 0 1 = cc in absurd (omega arith)

refused_by : (o : Outcome Case) (more : Case → Outcome (List ℕ)) {number line : ℕ} → refusal number line ≡ accepting o → and_then o more ≡ refusal number line
refused_by (values c) more said = let z : ◌≡◌ {A = ℕ} 0 1 = cc in absurd (omega arith)
refused_by (refusal n l) more said = cc

module _ (s : List ℕ) (room : ℕ) where
  pub valued_accepted : {p : Plan} {k n : ℕ} {amendments rows members : List (List ℕ)} (old_amendments old_rows old_members : List (List ℕ)) → accepted p k n ≡ accepting (accepting_of s) → amendments ≡ amendments_after (accepting_of s) old_amendments → rows ≡ rows_after (accepting_of s) old_rows → members ≡ members_after (accepting_of s) old_members → fitting room (printed (as_valued p (amendments_from (take k amendments))) rows (members_in members n)) ≡ valued_of room s
  unfolding valued_of
  valued_accepted old_amendments old_rows old_members = valued_by (accepting_of s) room old_amendments old_rows old_members (accepted_case s)

  pub valued_refused : {number line : ℕ} → refusal number line ≡ accepting (accepting_of s) → valued_of room s ≡ refusal number line
  unfolding valued_of
  valued_refused = refused_by (accepting_of s) (λ c. fitting room (printed (valued_plan c) c.rows c.members))

-- ---- what the program prints, from the two answers
-- where its line fits it is written, and where it doesn't the refusal stays what it was
module _ (old : List ℕ) (refused : Refused) where
  abbrev lines : List ℕ
  lines = refusal_line (number refused.refusal) refused.line

  abbrev said : Outcome (List ℕ)
  said = or_refusal (length old) (refusal (number refused.refusal) refused.line)

  fits_or_not : (t : Bool) {n : ℕ} → values n ≡ answer (cond t (values lines) (refusal 30 0)) → t ≡ true
  fits_or_not true e = refl
  fits_or_not false e = let z : ◌≡◌ {A = ℕ} 0 1 = cc in absurd (omega arith)

  too_long_line : (t : Bool) {a b : ℕ} → refusal a b ≡ answer (cond t (values lines) (refusal 30 0)) → t ≡ false
  too_long_line true e = let z : ◌≡◌ {A = ℕ} 0 1 = cc in absurd (omega arith)
  too_long_line false e = refl

  pub line_or_refusal : (r : Result ℕ Refused) {out : List ℕ} → refused.line < 2 ^ 64 → outcome r ≡ answer (fitting (length old) lines) → out ≡ buffer (fitting (length old) lines) old → (outcome (result_or r (Err refused)) ≡ answer said) × (out ≡ buffer said old) × (50 ≤ length old → IsOk (result_or r (Err refused)))
  unfolding fitting
  line_or_refusal (Ok n) small e held =
      let fits = fits_or_not (leb (length lines) (length old)) e in
      (rw fits (rw fits at e), rw fits (rw fits at held), λ enough. refl)
  line_or_refusal (Err other) small e held =
      let long = too_long_line (leb (length lines) (length old)) e in
      let none : 50 ≤ length old → IsOk {T = ℕ} (Err refused) = λ enough.
      let short = le-leb (length lines) (length old) (omega (arith, refusal_line_most (number refused.refusal) refused.line (number_small refused.refusal) small)) in
      let z : ◌≡◌ {A = ℕ} 0 1 = cc in absurd (omega arith) in
      (rw long refl, rw long (rw long at held), none)

-- where lines were written they stay, and where the case was refused the buffer is as it was
lines_printed : (room : ℕ) (o : Outcome (List ℕ)) (old : List ℕ) {n : ℕ} → values n ≡ answer o → (answer o ≡ answer (or_refusal room o)) × (buffer o old ≡ buffer (or_refusal room o) old)
lines_printed room (values lines) old said = (refl, refl)
lines_printed room (refusal number line) old said = let z : ◌≡◌ {A = ℕ} 0 1 = cc in absurd (omega arith)

refused_as : (o : Outcome (List ℕ)) (old : List ℕ) {number line : ℕ} → refusal number line ≡ answer o → (o ≡ refusal number line) × (buffer o old ≡ old)
refused_as (values lines) old said = let z : ◌≡◌ {A = ℕ} 0 1 = cc in absurd (omega arith)
refused_as (refusal n l) old said = (cc, refl)

module _ (s old : List ℕ) where
  pub program_lines : {n : ℕ} {out : List ℕ} → values n ≡ answer (valued_of (length old) s) → out ≡ buffer (valued_of (length old) s) old → (values n ≡ answer (program_of (length old) s)) × (out ≡ buffer (program_of (length old) s) old)
  unfolding program_of
  program_lines said held =
      let same = lines_printed (length old) (valued_of (length old) s) old said in
      (said ∙ same.0, held ∙ same.1)

  pub program_refusal : {number line : ℕ} {out : List ℕ} → refusal number line ≡ answer (valued_of (length old) s) → out ≡ buffer (valued_of (length old) s) old → (or_refusal (length old) (refusal number line) ≡ program_of (length old) s) × (out ≡ old)
  unfolding program_of
  program_refusal said held =
      let is = refused_as (valued_of (length old) s) old said in
      (sym (ap (or_refusal (length old)) is.0), held ∙ is.1)
