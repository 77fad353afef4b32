-- `term_lines::write_word_line` meets its contract.
use borrow.Author.Rules.{rules}
use Rattle.printing.proofs.SetsLaws.{◌then◌}
use Rattle.written.specs.Written.{closed_lines}
use Rattle.term_lines.proofs.write_word_line.Goals as goal

pub returns-clause-puts : goal.returns-clause-puts
unfolding closed_lines
returns-clause-puts c = search (rules, ◌then◌)
