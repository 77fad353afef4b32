-- `division::fold` meets its contract.
use Rattle.std.proofs.Common.{◌+◌, ◌*◌, arith}
use Rattle.division.proofs.Reciprocals.{quotient_fits}
use Rattle.division.proofs.fold.Goals as goal

pub overflow_add-result : goal.overflow_add-result
overflow_add-result c = let a = c.args in
    omega (arith, quotient_fits (a.q + 1) a.d (a.q * a.d + a.x) (omega arith) c.requires.1)
