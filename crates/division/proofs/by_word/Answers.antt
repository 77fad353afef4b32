-- `division::by_word` meets its contract.
use Rattle.std.proofs.Common.{mod-lt, div-add-mod', arith}
use Rattle.division.proofs.by_word.Goals as goal

pub overflow_mul-remainder : goal.overflow_mul-remainder
overflow_mul-remainder c = omega (arith, div-add-mod' c.args.n c.args.d)

pub overflow_sub-remainder : goal.overflow_sub-remainder
overflow_sub-remainder c = omega (arith, div-add-mod' c.args.n c.args.d)

pub returns : goal.returns
returns c = let a = c.args in
    let e = div-add-mod' a.n a.d in
    record { same = omega arith; less = omega (arith, mod-lt a.n c.requires) }
