-- `acceptance::lone_refusal` meets its contract.
use mathlib.Core.Path.{◌≡◌, sym, ap, ◌∙◌}
use mathlib.Core.List.{[], ◌∷◌}
use Rattle.plan.specs.declared.Plan.{Plan}
use Rattle.rules.proofs.RuleLaws.{first_refuses, first_passes, first_alone}
use Rattle.rules.proofs.RefusalLaws.{numbered, handed_on}
use Rattle.amendments.specs.Force.{amendments_from, as_valued}
use Rattle.rule_order.specs.Acceptance.{amended_refusal, member_refusal, line_refusal, lone_refusal}
use Rattle.rule_order.proofs.LoneLaws.{own_alone}
use Rattle.rule_order.proofs.ValuedLaws.{amended_kept, valued_is_accepted}
use Rattle.acceptance.proofs.lone_refusal.Goals as goal
use Rattle.acceptance.proofs.lone_refusal.Goals.{In_ok-plan_refusal, After-as_valued-valued}

-- the plan is accepted
accepted : (c : In_ok-plan_refusal) → let a = c.args in amended_refusal a.p (amendments_from a.amendments.now) a.rows ≡ 0
accepted c = sym c.in_ok-plan_refusal.ensures

-- and then the member's own refusal is the answer
own : (c : After-as_valued-valued) → let a = c.args in member_refusal c.as_valued-valued.result a.rows 0 a.m ≡ lone_refusal a.p (amendments_from a.amendments.now) a.rows a.m
unfolding lone_refusal
own c =
    let a = c.args in
    let l = amendments_from a.amendments.now in
    let valued = as_valued a.p l in
    let line = line_refusal valued a.rows 0 0 a.m in
    ap (λ (p : Plan). member_refusal p a.rows 0 a.m) c.as_valued-valued.ensures
    ∙ sym (first_passes (amended_refusal a.p l a.rows) (line ∷ []) (accepted c.before) ∙ first_alone line ∙ own_alone valued a.rows 0 a.m)

pub returns-in_err-plan_refusal : goal.returns-in_err-plan_refusal
unfolding lone_refusal
returns-in_err-plan_refusal c = let a = c.args in
    let refusal = c.in_err-plan_refusal.field-0.0 in
    let e = c.in_err-plan_refusal.ensures in
    let l = amendments_from a.amendments.now in
    handed_on refusal c.from_residual.result c.from_residual.ensures.1
    ∙ e ∙ sym (first_refuses (amended_refusal a.p l a.rows) (line_refusal (as_valued a.p l) a.rows 0 0 a.m ∷ []) (λ z. numbered refusal (e ∙ z)))

pub as_valued-valued-requires : goal.as_valued-valued-requires
as_valued-valued-requires c = (amended_kept _ _ _ (accepted (goal.at.as_valued-valued-requires c).In_ok-plan_refusal)).1

pub member_benefit-requires : goal.member_benefit-requires
member_benefit-requires c = rw c.as_valued-valued.ensures (valued_is_accepted _ _ _ (accepted (goal.at.member_benefit-requires c).In_ok-plan_refusal))

pub returns-in_err-member_benefit : goal.returns-in_err-member_benefit
returns-in_err-member_benefit c = let refusal = c.in_err-member_benefit.field-0.0 in
    let r = c.from_residual-in_err-member_benefit in
    handed_on refusal r.result r.ensures.1 ∙ c.in_err-member_benefit.ensures.refusal ∙ own (goal.at.returns-in_err-member_benefit c).After-as_valued-valued

pub returns : goal.returns
returns c = c.in_ok-member_benefit.ensures.refusal ∙ own (goal.at.returns c).After-as_valued-valued
