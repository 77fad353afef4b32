-- `division::by_reciprocal` meets its contract.
use Rattle.std.proofs.Common.{arith}
use Rattle.division.proofs.Reciprocals.{high_short}
use Rattle.division.proofs.by_reciprocal.Goals as goal

pub start-requires : goal.start-requires
start-requires c = (c.reciprocal-v.ensures, high_short c.args.w c.args.d c.requires (omega arith))

pub finish-requires : goal.finish-requires
finish-requires c = let a = c.args in
    (c.reciprocal-v.ensures, rw c.start.ensures (high_short a.w a.d c.requires (omega arith)))
