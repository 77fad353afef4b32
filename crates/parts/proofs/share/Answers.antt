-- `parts::share` meets its contract.
use native.Mathlib.Omega.{arith}
use Rattle.rounding.proofs.NearestLaws.{nearest_shrinks}
use Rattle.parts.proofs.share.Goals as goal

pub mul_div_nearest-requires : goal.mul_div_nearest-requires
mul_div_nearest-requires c = omega (arith, nearest_shrinks c.args.factor c.args.part c.args.whole c.requires.0 c.requires.1)
