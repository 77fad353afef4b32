-- `rounding::signed_mul_div_nearest` meets its contract.
use mathlib.Core.Path.{sym, ◌∙◌}
use native.Mathlib.Omega.{arith}
use Rattle.rounding.proofs.SignedLaws.{signed_zero, signed_other}
use Rattle.rounding.proofs.signed_mul_div_nearest.Goals as goal

pub returns-then-size-eq0 : goal.returns-then-size-eq0
returns-then-size-eq0 c = let a = c.args in
    signed_zero a.a a.b a.d c.requires.0 (sym c.mul_div_nearest-size.ensures ∙ c.if-size-eq0.true)

pub returns : goal.returns
returns c = let a = c.args in
    let q = c.mul_div_nearest-size in
    signed_other a.a a.b a.d q.result c.requires.0 q.ensures (omega arith)
