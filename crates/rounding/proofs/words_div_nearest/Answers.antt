-- `rounding::words_div_nearest` meets its contract.
use Prim.Native.Nat.{◌^◌}
use Rattle.division.specs.Words.{value}
use Rattle.rounding.proofs.Room.{high_less}
use Rattle.rounding.proofs.words_div_nearest.Goals as goal

pub divide-requires : goal.divide-requires
unfolding value
divide-requires c = let a = c.args in
    high_less (2 ^ 64) a.high a.low a.d c.requires.0 c.requires.1

pub half_even-requires : goal.half_even-requires
unfolding value
half_even-requires c = (c.divide.ensures.less, rw c.divide.ensures.same c.requires.1)

pub returns : goal.returns
unfolding value
returns c = rw c.divide.ensures.same at c.half_even.ensures
