-- `printed_lines::write_signed_line` meets its contract.
use Rattle.printing.proofs.SetsLaws.{◌then◌}
use borrow.Author.Rules.{rules}
use Rattle.printed_lines.specs.Lines.{signed_line}
use Rattle.printed_lines.proofs.write_signed_line.Goals as goal

pub returns-clause-puts : goal.returns-clause-puts
unfolding signed_line
returns-clause-puts c = search (rules, ◌then◌)
