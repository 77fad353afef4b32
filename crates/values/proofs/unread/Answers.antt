-- `values::unread` meets its contract.
use mathlib.Core.Path.{sym, ◌∙◌}
use Rattle.fields.proofs.StdWords.{any_is}
use Rattle.values.proofs.unread.Goals as goal

pub returns-then-contains : goal.returns-then-contains
returns-then-contains c = let has = sym (any_is 10 c.args.s.now) ∙ sym c.contains.ensures.value ∙ c.if-contains.true in rw has

pub returns-else-contains : goal.returns-else-contains
returns-else-contains c = let none = sym (any_is 10 c.args.s.now) ∙ sym c.contains.ensures.value ∙ c.if-contains.false in rw none
