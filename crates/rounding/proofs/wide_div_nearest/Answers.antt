-- `rounding::wide_div_nearest` meets its contract.
use native.Mathlib.Omega.{arith}
use Rattle.division.specs.Words.{value}
use Rattle.rounding.proofs.wide_div_nearest.Goals as goal

pub words_div_nearest-requires : goal.words_div_nearest-requires
unfolding value
words_div_nearest-requires c = c.requires

pub returns : goal.returns
unfolding value
returns c = omega arith
