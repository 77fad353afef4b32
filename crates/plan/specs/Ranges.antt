-- What the ranges of RULES sections 2, 3 and 4 leave of a plan, its rows and a member; among it is all that the benefit and
-- the methods ask of them. Accepting shows it (crate `rule_order`).
use Rattle.std.specs.Prelude.{◌≡◌, ◌⊎◌, List, ℕ, ◌+◌, ◌≤◌, ◌<◌}
use Rattle.rates.specs.Table.{weight, Table}
use Rattle.plan.specs.declared.Plan.{Plan}
use Rattle.plan.specs.declared.Member.{Member}
use Rattle.plan.specs.Benefit.{B}

-- what rules 2.2 to 2.10 leave of a heading; of rule 2.6 only what final needs
pub record HeadRanges (p : Plan) : Type 0 where
  pub interest : p.interest ≤ 2000
  pub retire : (50 ≤ p.retire) × (p.retire ≤ 75)
  pub pay : (p.pay ≡ 1) ⊎ (p.pay ≡ 12)
  pub formula : (1 ≤ p.formula) × (p.formula ≤ 3)
  pub flat_unit : p.unit ≤ 100000
  pub pay_unit : (p.formula ≡ 1 → ⊥) → p.unit ≤ 500
  pub average : p.formula ≡ 3 → (1 ≤ p.average) × (p.average ≤ 10)
  pub method : (1 ≤ p.method) × (p.method ≤ 5)
  pub assets : p.assets ≤ 99999999999999
  pub years : (1 ≤ p.years) × (p.years ≤ 40)

-- and with it a table that keeps rules 3.2 and 3.5
pub record PlanRanges (p : Plan) (rows : List (List ℕ)) : Type 0 where
  pub head : HeadRanges p
  pub table : Table rows
  pub least : (k : ℕ) → 15 ≤ k → k ≤ 120 → 1000 ≤ weight rows k
  pub climbs : (k : ℕ) → 15 ≤ k → k < 120 → weight rows k ≤ weight rows (k + 1)

-- a member that keeps rules 4.3 to 4.5
pub record InRange (p : Plan) (m : Member) : Type 0 where
  pub grown : 15 ≤ m.entry
  pub enters : m.entry < p.retire
  pub past_entry : m.entry ≤ m.age
  pub not_past : m.age ≤ p.retire
  pub paid : m.salary ≤ 100000000

-- such a member of such a plan, that keeps rule 7.8 too; its id and its person play no part in the figures
pub record MemberRanges (p : Plan) (rows : List (List ℕ)) (m : Member) : Type 0 where
  pub plan : PlanRanges p rows
  pub in_range : InRange p m
  pub capped : B p rows m p.retire ≤ 100000000
