-- `division::words::times` meets its contract.
use Rattle.std.proofs.Common.{◌+◌, ◌*◌, ◌^◌, ◌<◌, arith}
use Rattle.division.specs.Words.{value}
use Rattle.division.proofs.Halves.{times_same, times_fits}
use Rattle.division.proofs.words.times.Goals as goal
use Rattle.division.proofs.words.times.Goals.{After-product-lower}

-- the high word of the whole fits
high_fits : (c : After-product-lower) → c.args.w.high * c.args.c + c.product-lower.result.high < 2 ^ 64
unfolding value
high_fits c =
    let a = c.args in
    let p = c.product-lower.result in
    times_fits (2 ^ 64) a.w.high a.w.low a.c p.high p.low c.product-lower.ensures c.requires

pub overflow_mul-high : goal.overflow_mul-high
unfolding value
overflow_mul-high c = omega (arith, high_fits c.before)

pub overflow_add-high : goal.overflow_add-high
unfolding value
overflow_add-high c = omega (arith, high_fits c.before.before)

pub returns : goal.returns
unfolding value
returns c = let a = c.args in
    let p = c.product-lower in
    times_same (2 ^ 64) a.w.high a.w.low a.c p.result.high p.result.low p.ensures
