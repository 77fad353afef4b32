-- `test_rounding_edges::fits` meets its contract.
use borrow.Author.Tests.{leb-true}
use native.Mathlib.Omega.{arith}
use Rattle.test_rounding_edges.proofs.Room.{two_words}
use Rattle.test_rounding_edges.proofs.fits.Goals as goal

pub returns-then-upper-eq0 : goal.returns-then-upper-eq0
returns-then-upper-eq0 c =
    let upper = c.product-upper in
    let lower = c.product-lower in
    λ e. two_words c.args.w upper.result lower.result c.args.c upper.ensures lower.ensures c.if-upper-eq0.true (omega (arith, leb-true)) (omega arith)
