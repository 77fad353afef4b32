-- `printing::Page::amount` meets its contract.
use Rattle.printing.proofs.SetsLaws.{◌then◌}
use Rattle.printing.proofs.AmountLaws.{amount_parts}
use Rattle.printing.proofs.Page.amount.Goals as goal

pub returns-clause-puts : goal.returns-clause-puts
returns-clause-puts c = rw amount_parts (c.whole.ensures.puts then c.put.ensures then c.two_digits.ensures.puts)
