-- What accepting hands on is the case, so that writing it gives the file.
use Prim.Native.Nat.{ℕ, ◌≤◌}
use mathlib.Core.Path.{◌≡◌, refl, ap, ◌∙◌}
use mathlib.Core.List.{List, [], ◌∷◌, map}
use lib.ListN.{length, take, replicate, length-map}
use native.Mathlib.Omega.{arith}
use Rattle.plan.specs.declared.Plan.{Plan}
use Rattle.plan.specs.declared.Member.{Member}
use Rattle.rule_order.proofs.ValuedLaws.{amended_kept}
use Rattle.amendments.proofs.Keeping.{list_kept, few_listed}
use Rattle.rules.specs.Outcome.{Outcome, values, refusal}
use Rattle.plan.specs.Numbers.{member_from, numbers_of}
use Rattle.walk.specs.Lines.{most_members}
use Rattle.walk.specs.Walk.{Case}
use Rattle.walk.specs.Kept.{AcceptedCase}
use Rattle.walk.proofs.Accepted.{accepted_keeps}
use Rattle.stretches.proofs.ArrayLaws.{filled_front}
use Rattle.amend_lines.specs.Array.{list_array}
use Rattle.amend_lines.proofs.ArrayLaws.{list_front}
use Rattle.members.specs.Array.{array_of}
use Rattle.whole_walk.specs.declared.Outline.{Outline}
use Rattle.casefile.proofs.Arrays.{same_outline}
use Rattle.casefile.specs.Answers.{accepting_of, accepted, accepting}
use Rattle.casefile.specs.Stored.{amendments_after, rows_after, members_after}
use Rattle.judging.specs.Refusing.{plain_case}
use Rattle.fitting.specs.Fitting.{fitting}
use Rattle.writer.specs.Files.{file_of}
use Rattle.writer.proofs.Copies.{clean_copy}
use Rattle.statements.specs.Statements.{HandedOnIsWritten}

from_numbers : (l : List Member) → map member_from (map numbers_of l) ≡ l
from_numbers [] = refl
from_numbers (m ∷ l) = ap (λ (r : List Member). m ∷ r) (from_numbers l)

-- the front of the members' array
members_front : (l : List Member) → length l ≤ most_members → map member_from (take (length l) (array_of l)) ≡ l
unfolding array_of
members_front l few =
    let long = length-map l numbers_of in
    rw (← long) (ap (map member_from) (filled_front most_members (replicate 5 0) (map numbers_of l) (omega (arith, long))) ∙ from_numbers l)

-- the fronts are the case
fronts : (c : Case) → AcceptedCase c → plain_case c.plan (take (length c.amends) (list_array c.amends)) c.rows (take (length c.members) (array_of c.members)) ≡ c
fronts c rules =
    let list = (list_kept c.plan c.amends (amended_kept c.plan c.amends c.rows rules.plan).1).0 in
    let amends = list_front c.amends refl (few_listed c.amends list) in
    let members = members_front c.members rules.few in
    λ i. record { plan = c.plan; amends = amends i; rows = c.rows; members = members i }

module _ (room : ℕ) (s : List ℕ) where
  handed : (o : Outcome Case) → accepting_of s ≡ o → {p : Plan} {k n : ℕ} {amendments rows members : List (List ℕ)} (old_amendments old_rows old_members : List (List ℕ)) → accepted p k n ≡ accepting o → amendments ≡ amendments_after o old_amendments → rows ≡ rows_after o old_rows → members ≡ members_after o old_members → file_of room (plain_case p (take k amendments) rows (take n members)) ≡ fitting room s
  unfolding accepting_of
  handed (values c) accepted {p} {k} {n} old_amendments old_rows old_members answer list table array =
      let same = same_outline answer in
      let terms : p ≡ c.plan = ap (λ (o : Outline). o.plan) same in
      let many : k ≡ length c.amends = ap (λ (o : Outline). o.amendments) same in
      let count : n ≡ length c.members = ap (λ (o : Outline). o.members) same in
      rw (terms, many, count, list, table, array) (ap (file_of room) (fronts c (accepted_keeps s c accepted).1) ∙ clean_copy room s c accepted)
  handed (refusal j l) accepted old_amendments old_rows old_members answer list table array =
      let z : ◌≡◌ {A = ℕ} 0 1 = cc in absurd (omega arith)

pub handed_on_is_written : HandedOnIsWritten
handed_on_is_written room s p k n amendments old_amendments rows old_rows members old_members =
    handed room s (accepting_of s) refl old_amendments old_rows old_members
