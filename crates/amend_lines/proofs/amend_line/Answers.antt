-- `amend_lines::amend_line` meets its contract.
use Rattle.walk.specs.Lines.{amend_form}
use Rattle.amend_lines.proofs.amend_line.Goals as goal

pub returns : goal.returns
unfolding amend_form
returns c = c.whole_values.ensures
