-- `printed_lines::write_amounts_line` meets its contract.
use Rattle.printing.proofs.SetsLaws.{◌then◌}
use Rattle.printed_lines.specs.Lines.{amounts_line}
use Rattle.printed_lines.proofs.write_amounts_line.Goals as goal

pub returns-clause-puts : goal.returns-clause-puts
unfolding amounts_line
returns-clause-puts c = c.write_start.ensures.puts then c.write_fields.ensures.puts then c.put.ensures
