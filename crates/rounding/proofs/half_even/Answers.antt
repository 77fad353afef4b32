-- `rounding::half_even` meets its contract.
use mathlib.Core.Path.{sym}
use native.Mathlib.Omega.{arith}
use Rattle.rounding.proofs.HalfEven.{raised, kept}
use Rattle.rounding.proofs.half_even.Goals as goal

pub overflow_add-result : goal.overflow_add-result
overflow_add-result c = let a = c.args in
    omega (arith, raised a.s.quotient a.s.remainder a.d (omega arith) (omega arith))

pub returns-then-r-odd : goal.returns-then-r-odd
returns-then-r-odd c = let a = c.args in
    sym (raised a.s.quotient a.s.remainder a.d (omega arith) (omega arith))

pub returns-else-r-odd : goal.returns-else-r-odd
returns-else-r-odd c = let a = c.args in
    sym (kept a.s.quotient a.s.remainder a.d (omega arith) (omega arith))
