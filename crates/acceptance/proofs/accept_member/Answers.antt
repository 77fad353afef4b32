-- `acceptance::accept_member` meets its contract.
use mathlib.Core.Path.{◌∙◌}
use Rattle.rules.proofs.RefusalLaws.{told_plain, passes_on, passes_none}
use Rattle.acceptance.specs.Answers.{acceptance_of}
use Rattle.acceptance.proofs.accept_member.Goals as goal

pub returns-in_err-lone_refusal : goal.returns-in_err-lone_refusal
unfolding acceptance_of
returns-in_err-lone_refusal c = let refusal = c.in_err-lone_refusal.field-0.0 in
    told_plain refusal c.from_residual.result c.from_residual.ensures.1 ∙ passes_none refusal 0 _ c.in_err-lone_refusal.ensures

pub returns : goal.returns
unfolding acceptance_of
returns c = passes_on 0 _ c.in_ok-lone_refusal.ensures
