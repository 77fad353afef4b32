-- `printing::Page::signed` meets its contract.
use mathlib.Core.Path.{sym, ◌∙◌}
use Rattle.printing.proofs.SetsLaws.{◌then◌}
use Rattle.printing.proofs.AmountLaws.{signed_parts}
use Rattle.printing.proofs.Page.signed.Goals as goal

pub returns-then-has_sign-clause-puts : goal.returns-then-has_sign-clause-puts
returns-then-has_sign-clause-puts c = let due = sym c.if-has_sign.true ∙ c.has_sign.ensures in
    rw (signed_parts c.args.z due) (c.put.ensures then c.amount_after.ensures.puts)

pub returns-else-has_sign-clause-puts : goal.returns-else-has_sign-clause-puts
returns-else-has_sign-clause-puts c = let none = sym c.if-has_sign.false ∙ c.has_sign.ensures in
    rw (signed_parts c.args.z none) c.amount.ensures.puts
