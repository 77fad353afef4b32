-- `report::write_member_line` meets its contract.
use Rattle.report.specs.Lines.{figures_line}
use Rattle.report.proofs.write_member_line.Goals as goal

pub returns-clause-puts : goal.returns-clause-puts
unfolding figures_line
returns-clause-puts c = c.write_amounts_line.ensures.puts
