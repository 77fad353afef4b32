-- `printing::digits::write_small` meets its contract.
use borrow.Author.Rules.{rules}
use Rattle.printing.proofs.AmountLaws.{whole_one, whole_two}
use Rattle.printing.proofs.digits.write_small.Goals as goal

pub returns-then-n-lt10-clause-puts : goal.returns-then-n-lt10-clause-puts
returns-then-n-lt10-clause-puts c = rw (whole_one c.args.n (search rules)) c.write_digit.ensures

pub returns-clause-puts : goal.returns-clause-puts
returns-clause-puts c = rw (whole_two c.args.n (search rules) c.requires.0) c.write_two.ensures.puts
