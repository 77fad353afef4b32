-- `rounding::div_nearest` meets its contract.
use native.Mathlib.Nat.{lt_of_le_of_lt}
use native.Mathlib.Omega.{arith}
use Rattle.rounding.proofs.NearestLaws.{nearest_le}
use Rattle.rounding.proofs.div_nearest.Goals as goal

pub half_even-requires : goal.half_even-requires
half_even-requires c = (c.by_word.ensures.less, rw c.by_word.ensures.same (lt_of_le_of_lt (nearest_le _ _ c.requires) (omega arith)))

pub returns : goal.returns
returns c = rw c.by_word.ensures.same at c.half_even.ensures
