-- `judging::case_refusal` meets its contract.
use mathlib.Core.Path.{◌≡◌, sym, ap, ◌∙◌}
use mathlib.Core.List.{[], map}
use Prim.Native.Nat.{◌≤◌}
use lib.ListN.{length, length-map}
use borrow.Author.Tests.{leb-true}
use Rattle.plan.specs.declared.Plan.{Plan}
use Rattle.plan.specs.Numbers.{member_from}
use Rattle.rules.proofs.RuleLaws.{kept}
use Rattle.rules.proofs.RefusalLaws.{numbered, handed_on, told_unless}
use Rattle.amendments.specs.Force.{amendments_from}
use Rattle.rule_order.specs.Acceptance.{amended_refusal}
use Rattle.rule_order.proofs.ValuedLaws.{amended_kept, valued_is_accepted}
use Rattle.judging.specs.Refusing.{plain_case, members_refusal}
use Rattle.judging.proofs.OrderLaws.{plan_refused, count_refuses, members_judged}
use Rattle.judging.proofs.case_refusal.Goals as goal
use Rattle.judging.proofs.case_refusal.Goals.{In_ok-plan_refusal, In_ok-unless}

-- the plan is accepted, and then the count
accepted : (c : In_ok-plan_refusal) → let a = c.args in amended_refusal a.p (amendments_from a.amendments.now) a.rows.now ≡ 0
accepted c = sym c.in_ok-plan_refusal.ensures

few : (c : In_ok-unless) → length c.args.members.now ≤ 1000
few c = leb-true (length c.args.members.now) 1000 (kept _ _ (sym (told_unless _ _ _ c.in_ok-unless.ensures)))

pub returns-in_err-plan_refusal : goal.returns-in_err-plan_refusal
returns-in_err-plan_refusal c = let a = c.args in
    let refusal = c.in_err-plan_refusal.field-0.0 in
    let e = c.in_err-plan_refusal.ensures in
    handed_on refusal c.from_residual.result c.from_residual.ensures.1
    ∙ e ∙ plan_refused (plain_case a.p a.amendments.now a.rows.now a.members.now) (λ z. numbered refusal (e ∙ z))

pub returns-in_err-unless : goal.returns-in_err-unless
returns-in_err-unless c = let a = c.args in
    let refusal = c.in_err-unless.field-0.0 in
    let r = c.from_residual-in_err-unless in
    handed_on refusal r.result r.ensures.1
    ∙ count_refuses (plain_case a.p a.amendments.now a.rows.now a.members.now) (accepted (goal.at.returns-in_err-unless c).In_ok-plan_refusal) (rw length-map (told_unless _ _ _ c.in_err-unless.ensures)) (numbered refusal)

pub as_valued-requires : goal.as_valued-requires
as_valued-requires c = (amended_kept _ _ _ (accepted (goal.at.as_valued-requires c).In_ok-plan_refusal)).1

pub members_refusal-requires : goal.members_refusal-requires
members_refusal-requires c = (
  rw c.as_valued.ensures (valued_is_accepted _ _ _ (accepted (goal.at.members_refusal-requires c).In_ok-plan_refusal)),
  few (goal.at.members_refusal-requires c).In_ok-unless,
)

pub returns : goal.returns
returns c = let a = c.args in
    let l = map member_from a.members.now in
    c.members_refusal.ensures
    ∙ ap (λ (p : Plan). members_refusal p a.rows.now [] l) c.as_valued.ensures
    ∙ members_judged (plain_case a.p a.amendments.now a.rows.now a.members.now) (accepted (goal.at.returns c).In_ok-plan_refusal) (rw length-map (few (goal.at.returns c).In_ok-unless))
