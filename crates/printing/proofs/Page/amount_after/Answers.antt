-- `printing::Page::amount_after` meets its contract.
use mathlib.Core.Path.{refl}
use Rattle.printing.specs.Amounts.{amount}
use Rattle.printing.proofs.SetsLaws.{lent}
use Rattle.printing.proofs.Page.amount_after.Goals as goal

pub returns-clause-puts : goal.returns-clause-puts
returns-clause-puts c = let page = c.args.self.now in
    record { writes = lent page.out.now page.at (amount c.args.cents) c.write_amount.ensures.puts; same_buffer = refl }
