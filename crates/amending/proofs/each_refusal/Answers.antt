-- `amending::each_refusal` meets its contract.
use mathlib.Core.Path.{refl, sym, ap, ◌∙◌}
use native.Mathlib.Omega.{arith}
use Rattle.rules.proofs.RefusalLaws.{numbered, handed_on}
use Rattle.amendments.specs.Judging.{amendment_refusal}
use Rattle.amendments.proofs.ListLaws.{before, each_refused, each_passed, each_done}
use Rattle.amending.proofs.each_refusal.Goals as goal

pub returns-in_err-amendment_rule : goal.returns-in_err-amendment_rule
returns-in_err-amendment_rule c = let L = c.args.list.now in
    let j = c.loop-j.j in
    let refusal = c.in_err-amendment_rule.field-0.0 in
    let judged = c.in_err-amendment_rule.ensures ∙ ap (amendment_refusal (before L j)) c.from.ensures in
    handed_on refusal c.from_residual.result c.from_residual.ensures.1 ∙ each_refused L j c.loop-j-test.true judged (numbered refusal) ∙ sym c.loop-j.invariant

pub loop-j-preserved : goal.loop-j-preserved
loop-j-preserved c = let L = c.args.list.now in
    let j = c.loop-j.j in
    let judged = c.in_ok-amendment_rule.ensures ∙ ap (amendment_refusal (before L j)) c.from.ensures in
    c.loop-j.invariant ∙ each_passed L j c.loop-j-test.true judged refl

pub returns : goal.returns
returns c = each_done c.args.list.now c.loop-j.j (omega (arith, c.loop-j-test.false)) ∙ sym c.loop-j.invariant
