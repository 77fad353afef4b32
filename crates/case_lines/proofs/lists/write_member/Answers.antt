-- `case_lines::lists::write_member` meets its contract.
use borrow.Author.Rules.{rules}
use Rattle.fields.specs.Text.{bytes}
use Rattle.printing.specs.Amounts.{amount}
use Rattle.written.specs.Written.{member_line}
use Rattle.case_lines.proofs.TextLaws.{five_values}
use Rattle.case_lines.proofs.lists.write_member.Goals as goal

pub returns-clause-puts : goal.returns-clause-puts
unfolding member_line
returns-clause-puts c =
    five_values (bytes "member=") _ _ _ _ (amount c.args.m.salary) c.write_four.ensures.puts (search rules) c.put.ensures
