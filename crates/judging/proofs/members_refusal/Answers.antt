-- `judging::members_refusal` meets its contract.
use mathlib.Core.Path.{refl, ◌∙◌}
use native.Mathlib.Omega.{arith}
use Rattle.rules.proofs.RefusalLaws.{numbered, handed_on}
use Rattle.judging.proofs.TurnLaws.{passed_none, passed_all, passed_refused, passed_next}
use Rattle.judging.proofs.members_refusal.Goals as goal

pub loop-j-init : goal.loop-j-init
loop-j-init c = let none = c.none-persons.ensures in passed_none _ _ _ none.rooted none.nothing

pub line_refusal-requires : goal.line_refusal-requires
line_refusal-requires c = ((λ on. c.requires.0), omega arith, c.loop-j.invariant.rooted)

pub returns-in_err-line_refusal : goal.returns-in_err-line_refusal
returns-in_err-line_refusal c = let refusal = c.in_err-line_refusal.field-0.0 in
    let r = c.from_residual in
    handed_on refusal r.result r.ensures.1
    ∙ passed_refused c.loop-j.invariant c.loop-j-test.true c.from-m.ensures c.in_err-line_refusal.ensures.refusal (numbered refusal)

pub loop-j-preserved : goal.loop-j-preserved
loop-j-preserved c = let kept = c.in_ok-line_refusal.ensures in
    passed_next c.loop-j.invariant c.loop-j-test.true c.from-m.ensures kept.refusal refl refl kept.rooted (kept.person_after refl)

pub returns : goal.returns
returns c = passed_all c.loop-j.invariant (omega (arith, c.loop-j-test.false))
