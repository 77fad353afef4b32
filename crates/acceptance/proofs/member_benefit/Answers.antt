-- `acceptance::member_benefit` meets its contract.
use mathlib.Core.Path.{sym, ◌∙◌}
use native.Mathlib.Nat.{le_refl, le_of_lt}
use native.Mathlib.Omega.{arith}
use borrow.Author.Tests.{le-leb, lt-leb}
use Rattle.std.proofs.lemmas.Result.{IfOk-from_err}
use Rattle.plan.specs.Benefit.{B}
use Rattle.rules.proofs.RefusalLaws.{numbered, handed_on}
use Rattle.rule_order.specs.Acceptance.{benefit_rules}
use Rattle.rule_order.proofs.Facts.{plan_facts, range_facts, fields_refused, fields_kept}
use Rattle.acceptance.proofs.member_benefit.Goals as goal

pub returns-in_err-fields_refusal : goal.returns-in_err-fields_refusal
returns-in_err-fields_refusal c = let a = c.args in
    let refusal = c.in_err-fields_refusal.field-0.0 in
    let e = c.in_err-fields_refusal.ensures in
    let r = c.from_residual in
    record {
      refusal = handed_on refusal r.result r.ensures.1 ∙ e ∙ sym (fields_refused a.p a.rows.now a.before a.m (λ z. numbered refusal (e ∙ z)));
      benefit = IfOk-from_err r.result _ r.ensures.0;
    }

-- fields that are right are in range
pub accrued_benefit-top-requires : goal.accrued_benefit-top-requires
accrued_benefit-top-requires c = let a = c.args in
    let ranges = range_facts a.p a.before a.m (sym c.in_ok-fields_refusal.ensures) in
    (plan_facts a.p a.rows.now c.requires, ranges, le_of_lt ranges.enters, le_refl a.p.retire)

-- a benefit within the ceiling
pub returns-then-top-le100000000 : goal.returns-then-top-le100000000
unfolding benefit_rules
returns-then-top-le100000000 c = let a = c.args in
    let top = c.accrued_benefit-top.ensures in
    let low = le-leb (B a.p a.rows.now a.m a.p.retire) 100000000 (omega (arith, top, c.if-top-le100000000.true)) in
    record { refusal = sym (fields_kept a.p a.rows.now a.before a.m (sym c.in_ok-fields_refusal.ensures) ∙ simp low); benefit = top }

-- a benefit above it
pub returns-else-top-le100000000 : goal.returns-else-top-le100000000
unfolding benefit_rules
returns-else-top-le100000000 c = let a = c.args in
    let high = lt-leb (B a.p a.rows.now a.m a.p.retire) 100000000 (omega (arith, c.accrued_benefit-top.ensures, c.if-top-le100000000.false)) in
    record { refusal = sym (fields_kept a.p a.rows.now a.before a.m (sym c.in_ok-fields_refusal.ensures) ∙ simp high); benefit = tt }
