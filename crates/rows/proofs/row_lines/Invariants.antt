-- `rows::row_lines` meets its contract. The loop's invariant: k rows are read, and the walk goes on from here.
use Rattle.rows.proofs.RowLaws.{RowsRead}
use Rattle.rows.proofs.row_lines.Given as goal

abbrev pub invariant-loop-k : goal.invariant-loop-k
invariant-loop-k l = RowsRead l.ranges l.first l.s l.rows l.line l.at l.k l.before
