-- `plan::benefit::accrued_benefit` meets its contract.
use mathlib.Core.Path.{◌≡◌, ap, ◌∙◌}
use Rattle.plan.specs.declared.Formula.{Formula}
use Rattle.plan.specs.Weights.{first_paid}
use Rattle.plan.specs.Benefit.{formula_of}
use Rattle.plan.proofs.BenefitNeeds.{paid_ages}
use Rattle.plan.proofs.benefit.accrued_benefit.Goals as goal
use Rattle.plan.proofs.benefit.accrued_benefit.Goals.{After-first_paid-first}

-- the first age whose pay counts, by the definition
first : (c : After-first_paid-first) → let a = c.args in c.first_paid-first.result ≡ first_paid (formula_of a.p.formula) a.p.average a.m.entry a.k
first c = let a = c.args in c.first_paid-first.ensures ∙ ap (λ (f : Formula). first_paid f a.p.average a.m.entry a.k) c.formula_of.ensures

pub weights_between-requires : goal.weights_between-requires
weights_between-requires c = let a = c.args in
    let ages = paid_ages c.requires.0 c.requires.1 a.k c.requires.2 c.requires.3 (first c) in
    (c.requires.0.table, ages.low, ages.le, ages.high)
