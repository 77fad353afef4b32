-- `measures::adds` meets its contract.
use mathlib.Core.Path.{◌≡◌}
use native.Mathlib.Omega.{arith}
use Rattle.plan.specs.Benefit.{B}
use Rattle.costs.specs.Valuation.{setting_of}
use Rattle.costs.proofs.Limits.{B_rises}
use Rattle.costs.proofs.Needs.{sound}
use Rattle.measures.proofs.adds.Goals as goal
use Rattle.measures.proofs.adds.Goals.{After-accrued_benefit}

-- by AB what is earned is B(k)
earned : (c : After-accrued_benefit) → let a = c.args in a.earned ≡ B a.p a.rows.now a.m a.k
earned c = rw c.in-AB.is at c.requires.3

pub overflow_sub-result : goal.overflow_sub-result
overflow_sub-result c = let a = c.args in
    rw (earned c, c.accrued_benefit.ensures) (B_rises (setting_of a.p a.rows.now a.m) (sound a.p a.rows.now a.m c.requires.0) c.requires.1 (omega arith) (omega arith))
