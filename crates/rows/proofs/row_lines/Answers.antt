-- `rows::row_lines` meets its contract. The loop's invariant: k rows are read, and the walk goes on from here.
use native.Mathlib.Omega.{arith}
use borrow.Author.Rules.{rules}
use Rattle.fields.proofs.SplitLaws.{rest_part}
use Rattle.stretches.proofs.StretchLaws.{told}
use Rattle.rows.specs.Stretch.{RowsAre}
use Rattle.rows.proofs.RowLaws.{rows_none, rows_unread, rows_refused, rows_place, rows_next, rows_done}
use Rattle.rows.proofs.row_lines.Goals as goal

pub loop-k-init : goal.loop-k-init
loop-k-init c = rows_none _ _ _ _ (search rules)

pub returns-in_err-numbers : goal.returns-in_err-numbers
unfolding RowsAre
returns-in_err-numbers c =
    rw (told c.from_residual.result c.from_residual.ensures.1) (λ t l. rows_unread c.loop-k.invariant c.loop-k-test.true _ (rest_part c.args.s.now c.loop-k.at) c.row_line.ensures t l c.in_err-numbers.ensures)

pub returns-in_err-at_line : goal.returns-in_err-at_line
unfolding RowsAre
returns-in_err-at_line c =
    let r = c.from_residual-in_err-at_line in
    rw (told r.result r.ensures.1) (λ t l. rows_refused c.loop-k.invariant c.loop-k-test.true _ (rest_part c.args.s.now c.loop-k.at) c.row_line.ensures c.in_ok-numbers.ensures _ c.row_refusal.ensures t l c.in_err-at_line.ensures)

pub overflow_add-at : goal.overflow_add-at
overflow_add-at c = omega (arith, rows_place c.loop-k.invariant c.loop-k-test.true _ (rest_part c.args.s.now c.loop-k.at) c.row_line.ensures c.in_ok-numbers.ensures)

pub overflow_add-at-in-loop-k : goal.overflow_add-at-in-loop-k
overflow_add-at-in-loop-k c = omega (arith, rows_place c.loop-k.invariant c.loop-k-test.true _ (rest_part c.args.s.now c.loop-k.at) c.row_line.ensures c.in_ok-numbers.ensures)

pub loop-k-preserved : goal.loop-k-preserved
loop-k-preserved c =
    rows_next c.loop-k.invariant c.loop-k-test.true _ (rest_part c.args.s.now c.loop-k.at) c.row_line.ensures c.in_ok-numbers.ensures _ c.row_refusal.ensures c.in_ok-at_line.ensures c.narrow_row.ensures

pub returns : goal.returns
unfolding RowsAre
returns c = rows_done c.loop-k.invariant c.loop-k-test.false
