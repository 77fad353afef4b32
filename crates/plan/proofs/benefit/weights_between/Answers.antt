-- `plan::benefit::weights_between` meets its contract.
use Rattle.std.proofs.Common.{◌∙◌, arith}
use Rattle.plan.proofs.WeightLaws.{summed_part}
use Rattle.plan.proofs.BenefitNeeds.{weights_most}
use Rattle.plan.proofs.benefit.weights_between.Goals as goal

pub weights_in-requires : goal.weights_in-requires
weights_in-requires c = let a = c.args in
    omega (arith, summed_part a.rows.now a.a a.b c.requires.1 c.requires.2 (omega arith), weights_most a.rows.now a.a a.b c.requires.1 c.requires.2 c.requires.3 c.requires.0)

pub returns : goal.returns
returns c = let a = c.args in
    c.weights_in.ensures ∙ summed_part a.rows.now a.a a.b c.requires.1 c.requires.2 (omega arith)
