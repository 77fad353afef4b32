-- `bench_annuity::rows_of` meets its contract. The loop's invariant: each row before j is stored.
use mathlib.Core.Path.{◌≡◌, sym, ◌∙◌}
use mathlib.Core.List.{[]}
use native.Mathlib.Omega.{arith}
use lib.ListN.{length}
use Rattle.bench_annuity.specs.Rows.{rows_of}
use Rattle.bench_annuity.proofs.Stored.{stored_none, stored_more, stored_all}
use Rattle.bench_annuity.proofs.RowLaws.{rows_of_length, rows_of_at}
use Rattle.bench_annuity.proofs.rows_of.Goals as goal

pub loop-j-init : goal.loop-j-init
loop-j-init c = let numbers = c.args.numbers.now in
    (omega arith, stored_none [] (rows_of numbers) (sym (rows_of_length numbers)))

pub loop-j-preserved : goal.loop-j-preserved
loop-j-preserved c = let numbers = c.args.numbers.now in
    let l = c.loop-j in
    (omega arith, stored_more [] (rows_of numbers) l.j c.row_at.result (omega (arith, rows_of_length numbers)) (c.row_at.ensures ∙ sym (rows_of_at numbers l.j (omega arith))) l.invariant.1)

pub returns : goal.returns
returns c = let numbers = c.args.numbers.now in
    let l = c.loop-j in
    let all : l.j ≡ length (rows_of numbers) = omega (arith, rows_of_length numbers) in
    stored_all [] (rows_of numbers) (rw all at l.invariant.1)
