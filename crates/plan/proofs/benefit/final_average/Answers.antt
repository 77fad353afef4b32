-- `plan::benefit::final_average` meets its contract.
use native.Mathlib.Omega.{arith}
use Rattle.plan.proofs.BenefitNeeds.{final_fits}
use Rattle.plan.proofs.benefit.final_average.Goals as goal

pub overflow_mul-unit-2 : goal.overflow_mul-unit-2
overflow_mul-unit-2 c = let a = c.args in omega (arith, final_fits a.unit a.years a.salary a.weights c.requires.0 c.requires.1 c.requires.2 c.requires.3)
