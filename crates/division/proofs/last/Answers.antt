-- `division::last` meets its contract.
use Rattle.std.proofs.Common.{◌≡◌, ℕ, ◌+◌, ◌-◌, ◌*◌, ◌≤◌, arith}
use Rattle.division.proofs.Reciprocals.{word_le, word_near, quotient_fits}
use Rattle.division.proofs.last.Goals as goal
use Rattle.division.proofs.last.Goals.{After-product-k}

-- what the reciprocal takes
taken : (c : After-product-k) → c.product-k.result.high * c.args.d ≤ c.args.n
taken c = word_le c.requires.0 c.args.n c.product-k.result c.product-k.ensures

same : (q k d n : ℕ) → k * d ≤ n → (q + k) * d + (n - k * d) ≡ q * d + n
same q k d n h = omega arith

pub overflow_add-q : goal.overflow_add-q
overflow_add-q c = let a = c.args in
    omega (arith, quotient_fits (a.q + c.product-k.result.high) a.d (a.q * a.d + a.n) (omega (arith, taken c)) c.requires.1)

pub overflow_mul-k : goal.overflow_mul-k
overflow_mul-k c = omega (arith, taken c)

pub overflow_sub-n : goal.overflow_sub-n
overflow_sub-n c = taken c

pub fold-requires : goal.fold-requires
fold-requires c = let a = c.args in
    let p = c.product-k in
    (omega (arith, taken c, word_near c.requires.0 a.n p.result (omega arith) (omega arith) p.ensures), rw (same a.q p.result.high a.d a.n (taken c)) c.requires.1)

pub returns : goal.returns
returns c = let a = c.args in
    rw (same a.q c.product-k.result.high a.d a.n (taken c.before)) at c.fold.ensures
