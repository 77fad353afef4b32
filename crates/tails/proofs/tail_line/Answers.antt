-- `tails::tail_line` meets its contract.
use mathlib.Core.Path.{◌∙◌}
use Rattle.fields.specs.Text.{bytes}
use Rattle.fields.proofs.StdWords.{starts_is}
use Rattle.tails.proofs.LineLaws.{err_is, member_read, member_fault, end_read, end_fault, surplus_line}
use Rattle.tails.proofs.tail_line.Goals as goal

pub returns-in_err-values : goal.returns-in_err-values
returns-in_err-values c =
    err_is _ _ c.from_residual.ensures.1 ∙ end_fault _ (c.starts_with.ensures.value ∙ starts_is (bytes "member=") c.args.s.now) _ c.if-not-starts_with.true c.whole_values.ensures c.in_err-values.was

pub returns-then-not-starts_with : goal.returns-then-not-starts_with
returns-then-not-starts_with c =
    end_read _ (c.starts_with.ensures.value ∙ starts_is (bytes "member=") c.args.s.now) _ c.if-not-starts_with.true c.whole_values.ensures c.in_ok-values.was

pub returns-then-full : goal.returns-then-full
returns-then-full c =
    surplus_line _ (c.starts_with.ensures.value ∙ starts_is (bytes "member=") c.args.s.now) c.if-not-starts_with.false c.if-full.true c.surplus.ensures

pub returns-in_err-values-2 : goal.returns-in_err-values-2
returns-in_err-values-2 c =
    err_is _ _ c.from_residual-in_err-values-2.ensures.1 ∙ member_fault _ (c.starts_with.ensures.value ∙ starts_is (bytes "member=") c.args.s.now) c.if-not-starts_with.false c.if-full.false c.values_to_amount.ensures c.in_err-values-2.was

pub returns : goal.returns
returns c =
    member_read _ (c.starts_with.ensures.value ∙ starts_is (bytes "member=") c.args.s.now) c.if-not-starts_with.false c.if-full.false c.values_to_amount.ensures c.in_ok-values-2.was c.from.ensures
