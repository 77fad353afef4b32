-- `case_lines::lists::write_amendment` meets its contract.
use Rattle.printing.proofs.SetsLaws.{◌then◌}
use Rattle.written.specs.Written.{amendment_line, closed_lines}
use Rattle.case_lines.proofs.lists.write_amendment.Goals as goal

pub returns-clause-puts : goal.returns-clause-puts
unfolding amendment_line closed_lines
returns-clause-puts c = c.write_four.ensures.puts then c.put.ensures
