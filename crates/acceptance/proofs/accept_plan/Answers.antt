-- `acceptance::accept_plan` meets its contract.
use mathlib.Core.Path.{◌∙◌}
use Rattle.rules.proofs.RefusalLaws.{told_plain, passes_on, passes_none}
use Rattle.acceptance.specs.Answers.{acceptance_of}
use Rattle.acceptance.proofs.accept_plan.Goals as goal

pub returns-in_err-plan_refusal : goal.returns-in_err-plan_refusal
unfolding acceptance_of
returns-in_err-plan_refusal c = let refusal = c.in_err-plan_refusal.field-0.0 in
    told_plain refusal c.from_residual.result c.from_residual.ensures.1 ∙ passes_none refusal 0 _ c.in_err-plan_refusal.ensures

pub returns : goal.returns
unfolding acceptance_of
returns c = passes_on 0 _ c.in_ok-plan_refusal.ensures
