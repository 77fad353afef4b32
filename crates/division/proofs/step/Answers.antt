-- `division::step` meets its contract.
use Rattle.std.proofs.Common.{◌≡◌, ℕ, ◌+◌, ◌*◌, ◌^◌, ◌<◌, ◌≤◌, arith}
use Rattle.division.specs.Words.{value}
use Rattle.division.specs.Division.{undivided}
use Rattle.division.proofs.Reciprocals.{taken_le, taken_some, quotient_fits}
use Rattle.division.proofs.step.Goals as goal
use Rattle.division.proofs.step.Goals.{After-product-p}

-- how often d is taken
times : After-product-p → ℕ
times c = c.args.t.left.high * c.args.v + c.product-p.result.high

taken : (c : After-product-p) → times c * c.args.d ≤ value c.args.t.left
unfolding times
taken c = taken_le c.requires.0 c.args.t.left c.product-p.result c.product-p.ensures

fits : (c : After-product-p) → c.args.t.quotient + times c < 2 ^ 64
unfolding undivided
fits c =
    let a = c.args in
    quotient_fits (a.t.quotient + times c) a.d (undivided a.d a.t) (omega (arith, taken c)) c.requires.1

same : (q k d r m w : ℕ) → m ≡ k * d → r + m ≡ w → (q + k) * d + r ≡ q * d + w
same q k d r m w e f = omega arith

less : (r m w k : ℕ) → m ≡ k → r + m ≡ w → 0 < k → r < w
less r m w k e f some = omega arith

pub overflow_mul-k : goal.overflow_mul-k
unfolding times
overflow_mul-k c = omega (arith, fits c.before)

pub overflow_add-k : goal.overflow_add-k
unfolding times
overflow_add-k c = omega (arith, fits c.before.before)

pub overflow_add-result : goal.overflow_add-result
unfolding times
overflow_add-result c = omega (arith, fits c.before.before.before)

pub minus-requires : goal.minus-requires
unfolding times
minus-requires c = rw c.product.ensures (taken c.before.before.before.before)

pub returns : goal.returns
unfolding undivided times
returns c = let a = c.args in
    let m = c.product in
    record {
      same = same a.t.quotient (times c.before.before.before.before.before) a.d (value c.minus.result) (value m.result) (value a.t.left) m.ensures c.minus.ensures;
      less = λ some. less (value c.minus.result) (value m.result) (value a.t.left) (times c.before.before.before.before.before * a.d) m.ensures c.minus.ensures (taken_some c.requires.0 a.t.left.high c.product-p.result.high (omega arith) some);
    }
