-- `plain_engine::value_member` meets its contract.
use mathlib.Core.Path.{◌≡◌, sym, ap, ◌∙◌}
use Rattle.plan.specs.declared.Plan.{Plan}
use Rattle.plan.specs.Ranges.{MemberRanges}
use Rattle.rules.proofs.RefusalLaws.{numbered, told_plain}
use Rattle.amendments.specs.Force.{amendments_from, as_valued}
use Rattle.rule_order.specs.Acceptance.{lone_refusal}
use Rattle.rule_order.proofs.ValuedLaws.{lone_list, lone_facts}
use Rattle.costs.specs.Valuation.{figures}
use Rattle.costs.proofs.Answers.{refused, valued, limited, limited_none}
use Rattle.plain_engine.proofs.value_member.Goals as goal
use Rattle.plain_engine.proofs.value_member.Goals.{In_ok-lone_refusal}

none : (c : In_ok-lone_refusal) → let a = c.args in lone_refusal a.p (amendments_from a.amendments.now) a.rows a.m ≡ 0
none c = sym c.in_ok-lone_refusal.ensures

accepted : (c : In_ok-lone_refusal) → let a = c.args in MemberRanges (as_valued a.p (amendments_from a.amendments.now)) a.rows a.m
accepted c = let a = c.args in lone_facts a.p (amendments_from a.amendments.now) a.rows a.m (none c)

pub returns-in_err-lone_refusal : goal.returns-in_err-lone_refusal
returns-in_err-lone_refusal c = let a = c.args in
    let l = amendments_from a.amendments.now in
    let refusal = c.in_err-lone_refusal.field-0.0 in
    let told = told_plain refusal c.from_residual.result c.from_residual.ensures.1 in
    record {
      figures = told ∙ refused a.p l a.rows a.m c.in_err-lone_refusal.ensures (numbered refusal);
      limits = limited_none (as_valued a.p l) a.rows a.m told;
    }

pub as_valued-valued-requires : goal.as_valued-valued-requires
as_valued-valued-requires c = let a = c.args in
    lone_list a.p (amendments_from a.amendments.now) a.rows a.m (none (goal.at.as_valued-valued-requires c).In_ok-lone_refusal)

pub figures_of-requires : goal.figures_of-requires
figures_of-requires c = rw c.as_valued-valued.ensures (accepted (goal.at.figures_of-requires c).In_ok-lone_refusal)

pub returns : goal.returns
returns c = let a = c.args in
    let l = amendments_from a.amendments.now in
    let is = c.figures_of.ensures ∙ ap (λ (p : Plan). figures p a.rows a.m) c.as_valued-valued.ensures in
    record {
      figures = valued a.p l a.rows a.m (none (goal.at.returns c).In_ok-lone_refusal) is;
      limits = limited (as_valued a.p l) a.rows a.m (accepted (goal.at.returns c).In_ok-lone_refusal) is;
    }
