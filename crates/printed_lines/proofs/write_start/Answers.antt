-- `printed_lines::write_start` meets its contract.
use Rattle.printing.proofs.SetsLaws.{◌then◌}
use borrow.Author.Rules.{rules}
use Rattle.printed_lines.proofs.write_start.Goals as goal

pub returns-clause-puts : goal.returns-clause-puts
returns-clause-puts c = search (rules, ◌then◌)
