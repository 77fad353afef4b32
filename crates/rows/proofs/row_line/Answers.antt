-- `rows::row_line` meets its contract.
use mathlib.Core.Path.{◌∙◌}
use Rattle.rows.proofs.LineLaws.{row_good, row_other, row_fault, handed}
use Rattle.rows.proofs.row_line.Goals as goal

pub returns-in_err-values : goal.returns-in_err-values
returns-in_err-values c = handed c.from_residual.result c.from_residual.ensures.1 ∙ row_fault _ _ c.whole_values.ensures _ c.in_err-values.was

pub returns-then-due-age : goal.returns-then-due-age
returns-then-due-age c = row_other _ _ c.whole_values.ensures c.in_ok-values.was c.if-due-age.true

pub returns : goal.returns
returns c = row_good _ _ c.whole_values.ensures c.in_ok-values.was c.if-due-age.false
