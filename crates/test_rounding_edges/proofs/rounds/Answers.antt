-- `test_rounding_edges::rounds` meets its contract.
use borrow.Author.Tests.{ltb-true}
use native.Mathlib.Omega.{arith}
use Rattle.rounding.proofs.NearestLaws.{nearest_quotient}
use Rattle.test_rounding_edges.proofs.Room.{not_raised}
use Rattle.test_rounding_edges.proofs.rounds.Goals as goal

pub returns-then-s-lt-MAX : goal.returns-then-s-lt-MAX
returns-then-s-lt-MAX g c =
    let s = c.in_ok-s in
    let d = c.args.d in
    λ e. (omega (arith, s.ensures.less), rw (← s.ensures.same) (omega (arith, ltb-true, nearest_quotient s.s.quotient s.s.remainder d s.ensures.less)))

pub returns-else-s-lt-MAX : goal.returns-else-s-lt-MAX
returns-else-s-lt-MAX g c =
    let s = c.in_ok-s in
    let d = c.args.d in
    λ e. (omega (arith, s.ensures.less), rw (← s.ensures.same) (omega (arith, not_raised s.s.quotient s.s.remainder d (omega (arith, ltb-true, s.ensures.less)))))
