-- A whole case in plain values, rule 5.7: its first refusal. The line of plain values is 0.
use Rattle.std.specs.Prelude.{List, [], ◌∷◌, ◌++◌, map, ℕ, length, leb}
use Rattle.plan.specs.declared.Plan.{Plan}
use Rattle.plan.specs.declared.Member.{Member}
use Rattle.rules.specs.Refusals.{surplus_member}
use Rattle.rules.specs.Rules.{unless, first_among}
use Rattle.amendments.specs.Force.{amendments_from}
use Rattle.rule_order.specs.Acceptance.{amended_refusal, person_sum, line_refusal}
use Rattle.plan.specs.Numbers.{member_from}
use Rattle.walk.specs.Lines.{most_members}
use Rattle.walk.specs.Step.{last_id}
use Rattle.walk.specs.Walk.{Case, valued_plan}

-- rules 5.3 and 5.6: the case that plain values are. An amendment is four numbers, a row four and a member five
abbrev pub plain_case : Plan → (amendments rows members : List (List ℕ)) → Case
plain_case p amendments rows members =
    record { plan = p; amends = amendments_from amendments; rows = rows; members = map member_from members }

-- the members one by one, each after those before it: the last id, and what its person has so far
unfoldable pub members_refusal : Plan → List (List ℕ) → (before : List Member) → List Member → ℕ
members_refusal p rows before [] = 0
members_refusal p rows before (m ∷ l) =
    first_among (line_refusal p rows (last_id before) (person_sum p rows m.person before) m ∷ members_refusal p rows (before ++ m ∷ []) l ∷ [])

-- the plan with its amendments and its rows; 27, more than 1,000 members; then the members, by the plan as it is valued
unfoldable pub case_refusal : Case → ℕ
case_refusal c =
    first_among
    (amended_refusal c.plan c.amends c.rows
    ∷ unless (leb (length c.members) most_members) surplus_member
    ∷ members_refusal (valued_plan c) c.rows [] c.members
    ∷ [])
