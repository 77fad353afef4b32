-- `division::words::minus` meets its contract.
use Rattle.std.proofs.Common.{◌+◌, ◌^◌, ◌≤◌, arith}
use Rattle.division.specs.Words.{value}
use Rattle.division.proofs.Borrows.{high_le, low_same, words_same}
use Rattle.division.proofs.words.minus.Goals as goal
use Rattle.division.proofs.words.minus.Goals.{After-borrow}

room : (c : After-borrow) → c.args.m.high + c.borrow.result ≤ c.args.w.high
unfolding value
room c =
    let a = c.args in
    high_le (2 ^ 64) a.w.high a.w.low a.m.high a.m.low c.borrow.result c.requires c.borrow.ensures.1

pub overflow_sub-result : goal.overflow_sub-result
unfolding value
overflow_sub-result c = omega arith

pub overflow_sub-result-2 : goal.overflow_sub-result-2
unfolding value
overflow_sub-result-2 c = omega (arith, room c)

pub returns : goal.returns
unfolding value
returns c = let a = c.args in
    let b = c.borrow in
    let low = low_same a.w.low a.m.low b.result c.wrapping_sub_u64.result c.wrapping_sub_u64.ensures.value (omega arith) b.ensures.0 b.ensures.1 in
    words_same (2 ^ 64) a.w.high a.w.low a.m.high a.m.low b.result c.wrapping_sub_u64.result (room c.before) low
