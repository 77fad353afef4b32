-- What the caller's three arrays hold: it lends them, and the answer has none.
use Rattle.std.specs.Prelude.{ℕ, zero, suc, ◌≤◌, ◌<◌, ◌≡◌, List, length, take}
use Rattle.plan.specs.declared.Plan.{Plan}
use Rattle.rule_order.specs.Acceptance.{plan_refusal, member_refusal}
use Rattle.rules.specs.Outcome.{Outcome, values, refusal}
use Rattle.walk.specs.Lines.{most_members}
use Rattle.walk.specs.Walk.{Case}
use Rattle.amendments.specs.Force.{amendments_from, as_valued}
use Rattle.amendments.specs.Judging.{amendments_refusal}
use Rattle.amend_lines.specs.Array.{list_array}
use Rattle.members.specs.Array.{array_of, member_at}
use Rattle.casefile.specs.Answers.{accepting_of, accepted, accepting}

-- after accepting: the case where it is accepted, and else what they held before
abbrev pub amendments_after : Outcome Case → List (List ℕ) → List (List ℕ)
amendments_after (values c) old = list_array c.amends
amendments_after (refusal number line) old = old

abbrev pub rows_after : Outcome Case → List (List ℕ) → List (List ℕ)
rows_after (values c) old = c.rows
rows_after (refusal number line) old = old

abbrev pub members_after : Outcome Case → List (List ℕ) → List (List ℕ)
members_after (values c) old = array_of c.members
members_after (refusal number line) old = old

-- the id of the member before member j of an array, 0 for the first
abbrev pub id_before_at : List (List ℕ) → ℕ → ℕ
id_before_at a zero = 0
id_before_at a (suc j) = (member_at a j).id

-- what the rules say of the rows and the members of an accepted case, under the plan as it is valued, but for rule 7.10, which no figure needs: what one
-- who values the plan starts from
pub record AcceptedArrays (p : Plan) (n : ℕ) (rows members : List (List ℕ)) : Type 0 where
  pub plan : plan_refusal p rows ≡ 0
  pub few : n ≤ most_members
  pub member : (j : ℕ) → j < n → member_refusal p rows (id_before_at members j) (member_at members j) ≡ 0

-- and of the amendments
pub record AcceptedLists (p : Plan) (k n : ℕ) (amendments rows members : List (List ℕ)) : Type 0 where
  pub room : k ≤ length amendments
  pub list : amendments_refusal p (amendments_from (take k amendments)) ≡ 0
  pub valued : AcceptedArrays (as_valued p (amendments_from (take k amendments))) n rows members

-- where accept_case accepts a plan p with k amendments and n members, its arrays hold k amendments that the plan is accepted with, the rows, and n members, each of which keeps
-- its own rules after the one before it, under the plan as it is valued
abbrev pub AcceptedFillsArrays : Type 0
AcceptedFillsArrays =
    (s : List ℕ) (p : Plan) (k n : ℕ) (amendments old_amendments rows old_rows members old_members : List (List ℕ)) → accepted p k n ≡ accepting (accepting_of s) → amendments ≡ amendments_after (accepting_of s) old_amendments → rows ≡ rows_after (accepting_of s) old_rows → members ≡ members_after (accepting_of s) old_members → AcceptedLists p k n amendments rows members
