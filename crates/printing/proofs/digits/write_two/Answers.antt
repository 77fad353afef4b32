-- `printing::digits::write_two` meets its contract.
use Rattle.printing.specs.Amounts.{digits}
use Rattle.printing.proofs.SetsLaws.{◌before◌}
use Rattle.printing.proofs.digits.write_two.Goals as goal

pub returns-clause-puts : goal.returns-clause-puts
unfolding digits
returns-clause-puts c = c.write_digit-a.ensures before c.write_digit.ensures
