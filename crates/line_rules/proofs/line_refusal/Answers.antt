-- `line_rules::line_refusal` meets its contract.
use mathlib.Core.Path.{◌≡◌, sym, ap, ◌∙◌}
use mathlib.Core.Bool.{Bool, true, false, cond}
use Prim.Native.Nat.{ℕ, ◌+◌}
use native.Mathlib.Omega.{arith}
use lib.Dec.{eqb}
use borrow.Author.Tests.{leb-true}
use Rattle.std.proofs.lemmas.Result.{IfOk-from_err, on_ok_weaker}
use Rattle.plan.specs.Benefit.{B}
use Rattle.rules.proofs.RefusalLaws.{numbered, handed_on}
use Rattle.rule_order.proofs.Facts.{person_range, own_capped}
use Rattle.persons.specs.Held.{held}
use Rattle.persons.proofs.LineLaws.{rooted_on}
use Rattle.line_rules.proofs.RefusalLaws.{judges_own, judges_added}
use Rattle.line_rules.proofs.line_refusal.Goals as goal

pub returns-then-not-ranges : goal.returns-then-not-ranges
returns-then-not-ranges c =
    let off = c.if-not-ranges.true in
    record {
      refusal = rw off;
      rooted = rooted_on c.requires.2;
      person_after = λ on. let z : ◌≡◌ {A = Bool} true false = sym on ∙ off in let w : ◌≡◌ {A = ℕ} 0 1 = cc in absurd (omega arith);
    }

pub member_benefit-requires : goal.member_benefit-requires
member_benefit-requires c = c.requires.0 c.if-not-ranges.false

-- a member whom its own rules keep has a person, and a benefit within the ceiling
pub add-requires : goal.add-requires
add-requires c = let a = c.args in
    let own = c.in_ok-benefit.ensures in
    let capped = leb-true (B a.p a.rows.now a.m a.p.retire) 100000000 (own_capped a.p a.rows.now a.before a.m (sym own.refusal)) in
    (c.requires.2, c.requires.1, (person_range a.p a.rows.now a.before a.m (sym own.refusal)).0, omega (arith, own.benefit, capped))

pub returns-in_err-benefit : goal.returns-in_err-benefit
returns-in_err-benefit c = let a = c.args in
    let refusal = c.in_err-benefit.field-0.0 in
    let r = c.from_residual in
    record {
      refusal = handed_on refusal r.result r.ensures.1 ∙ rw c.if-not-ranges.false (judges_own a.p a.rows.now a.before a.m a.persons.now.sums c.in_err-benefit.ensures.refusal (numbered refusal));
      rooted = IfOk-from_err r.result _ r.ensures.0;
      person_after = IfOk-from_err r.result _ r.ensures.0;
    }

pub returns : goal.returns
returns c = let a = c.args in
    let own = c.in_ok-benefit.ensures in
    let added = c.add.ensures in
    record {
      refusal = rw c.if-not-ranges.false (judges_added a.p a.rows.now a.before a.m a.persons.now.sums own.refusal own.benefit added.refusal);
      rooted = added.rooted;
      person_after = on_ok_weaker c.add.result (λ more on person. more person ∙ ap (λ (x : ℕ). held a.persons.now.sums person + cond (eqb a.m.person person) x 0) own.benefit) added.other_after;
    }
