-- `case_lines::lists::write_four` meets its contract.
use Rattle.printing.proofs.SetsLaws.{◌then◌}
use Rattle.case_lines.proofs.TextLaws.{four_values}
use Rattle.case_lines.proofs.lists.write_four.Goals as goal

pub returns-clause-puts : goal.returns-clause-puts
returns-clause-puts c =
    rw four_values
    (c.write_start.ensures.puts then c.write_next.ensures.puts then c.write_next-2.ensures.puts then c.write_next-3.ensures.puts)
