-- `rules::terms::terms_refusal` meets its contract.
use mathlib.Core.Path.{refl, sym, ◌∙◌}
use native.Mathlib.Omega.{arith}
use Rattle.rules.proofs.RefusalLaws.{numbered, handed_on}
use Rattle.rules.proofs.TermLaws.{terms_refused, terms_passed, terms_done}
use Rattle.rules.proofs.terms.terms_refusal.Goals as goal

pub loop-k-init : goal.loop-k-init
loop-k-init c = refl

pub returns-in_err-term_rule : goal.returns-in_err-term_rule
returns-in_err-term_rule c = let e = c.in_err-term_rule in
    handed_on e.field-0.0 c.from_residual.result c.from_residual.ensures.1 ∙ terms_refused c.args.terms.now c.requires c.loop-k.k e.ensures (omega arith) (numbered e.field-0.0) ∙ sym c.loop-k.invariant

pub loop-k-preserved : goal.loop-k-preserved
loop-k-preserved c = c.loop-k.invariant ∙ terms_passed c.args.terms.now c.requires c.loop-k.k c.in_ok-term_rule.ensures (omega arith) refl

pub returns : goal.returns
returns c = sym (c.loop-k.invariant ∙ terms_done c.args.terms.now c.requires c.loop-k.k (omega arith))
