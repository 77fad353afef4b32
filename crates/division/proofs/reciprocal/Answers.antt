-- `division::reciprocal` meets its contract.
use Rattle.std.proofs.Common.{mod-lt, div-add-mod', arith}
use Rattle.division.proofs.reciprocal.Goals as goal

pub returns : goal.returns
returns c = let d = c.args.d in
    let e = div-add-mod' 0xffff_ffff_ffff_ffff d in
    record { below = omega arith; near = omega (arith, mod-lt 0xffff_ffff_ffff_ffff c.requires) }
