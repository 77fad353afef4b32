-- `values::line` meets its contract.
use mathlib.Core.Path.{sym, ◌∙◌}
use Rattle.fields.proofs.StdWords.{any_is, starts_is}
use Rattle.fields.proofs.KeyLaws.{key_read, key_misread, key_wrong}
use Rattle.values.proofs.line.Goals as goal

pub returns-then-not-starts_with : goal.returns-then-not-starts_with
returns-then-not-starts_with g c =
    key_wrong _ _ _ _ (sym (any_is 10 c.args.key.now) ∙ c.requires.key) (c.starts_with.ensures.value ∙ starts_is c.args.key.now c.args.s.now) c.if-not-starts_with.true c.unread.ensures

pub returns-in-Some : goal.returns-in-Some
returns-in-Some g c =
    key_read _ _ _ _ (sym (any_is 10 c.args.key.now) ∙ c.requires.key) (c.starts_with.ensures.value ∙ starts_is c.args.key.now c.args.s.now) c.values_at.ensures c.if-not-starts_with.false c.in-Some.is

pub returns-in-None : goal.returns-in-None
returns-in-None g c =
    key_misread _ _ _ _ (sym (any_is 10 c.args.key.now) ∙ c.requires.key) (c.starts_with.ensures.value ∙ starts_is c.args.key.now c.args.s.now) c.values_at.ensures c.if-not-starts_with.false c.in-None.is c.unread-in-None.ensures
