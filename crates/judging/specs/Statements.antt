-- What is refused of a whole case in plain values: in the order of rule 5.7, and exactly what breaks a rule (rule 5.2). Proved in proofs/OrderLaws.antt
-- and proofs/Exactly.antt.
use Rattle.std.specs.Prelude.{◌≡◌, List, [], ◌∷◌, ◌++◌, ◌↔◌, ◌≤◌, ◌<◌, length}
use Rattle.rates.specs.Table.{ages}
use Rattle.plan.specs.declared.Member.{Member}
use Rattle.rules.specs.Refusals.{surplus_member}
use Rattle.rule_order.specs.Acceptance.{amended_refusal, person_sum, line_refusal}
use Rattle.walk.specs.Lines.{most_members}
use Rattle.walk.specs.Step.{last_id}
use Rattle.walk.specs.Walk.{Case, valued_plan}
use Rattle.walk.specs.Kept.{AcceptedCase}
use Rattle.judging.specs.Refusing.{members_refusal, case_refusal}

-- rule 5.7: the plan's refusal, whatever the members are; then 27, whatever they are; then that of the first wrong member, whatever follows it
pub record InOrder (c : Case) : Type 0 where
  pub plan : (amended_refusal c.plan c.amends c.rows ≡ 0 → ⊥) → case_refusal c ≡ amended_refusal c.plan c.amends c.rows
  pub count : amended_refusal c.plan c.amends c.rows ≡ 0 → most_members < length c.members → case_refusal c ≡ surplus_member
  pub member :
      amended_refusal c.plan c.amends c.rows ≡ 0 → length c.members ≤ most_members
      → (before later : List Member) (m : Member) → c.members ≡ before ++ m ∷ later
      → members_refusal (valued_plan c) c.rows [] before ≡ 0
      → (line_refusal (valued_plan c) c.rows (last_id before) (person_sum (valued_plan c) c.rows m.person before) m ≡ 0 → ⊥)
      → case_refusal c ≡ line_refusal (valued_plan c) c.rows (last_id before) (person_sum (valued_plan c) c.rows m.person before) m

abbrev pub RefusedInOrder : Type 0
RefusedInOrder = (c : Case) → InOrder c

-- nothing is refused, if and only if the case keeps every rule
abbrev pub RefusedExactly : Type 0
RefusedExactly = (c : Case) → length c.rows ≡ ages → (case_refusal c ≡ 0) ↔ AcceptedCase c
