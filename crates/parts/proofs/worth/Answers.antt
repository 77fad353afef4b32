-- `parts::worth` meets its contract.
use native.Mathlib.Omega.{arith}
use Rattle.costs.proofs.Needs.{worth_most}
use Rattle.parts.proofs.worth.Goals as goal

pub mul_div_nearest-requires : goal.mul_div_nearest-requires
mul_div_nearest-requires c = omega (arith, worth_most c.args.benefit c.args.deferred c.requires.1)

pub returns : goal.returns
returns c = (c.mul_div_nearest.ensures, omega (arith, c.mul_div_nearest.ensures, worth_most c.args.benefit c.args.deferred c.requires.1, c.requires.0))
