-- The answer for a lone member, `plain_engine::value_member`: what it is, and that its N and L keep the limits; and demand 3 of every accepted member.
use mathlib.Core.Path.{◌≡◌, sym, subst, ◌∙◌}
use mathlib.Core.List.{List}
use Prim.Native.Nat.{ℕ}
use borrow.Author.Tests.{eq-eqb, ne_eqb}
use Rattle.plan.specs.declared.Plan.{Plan}
use Rattle.plan.specs.declared.Amendment.{Amendment}
use Rattle.plan.specs.declared.Member.{Member}
use Rattle.amendments.specs.Force.{as_valued}
use Rattle.rule_order.specs.Acceptance.{lone_refusal}
use Rattle.plan.specs.Ranges.{MemberRanges}
use Rattle.rule_order.proofs.Facts.{member_facts}
use Rattle.rule_order.proofs.ValuedLaws.{valued_is_accepted}
use Rattle.costs.specs.declared.Figures.{Figures}
use Rattle.rules.specs.Outcome.{Outcome, values, refusal}
use Rattle.costs.specs.Valuation.{method_of, setting_of, figures_at, figures, Limited, valuation, Accepted, Demand3Forms, Demand3Limits, Demand3SharpLimits}
use Rattle.costs.proofs.EqualForms.{equal_forms}
use Rattle.costs.proofs.Limits.{limits, sharp_limits}
use Rattle.costs.proofs.Needs.{sound}

module _ (p : Plan) (l : List Amendment) (rows : List (List ℕ)) (m : Member) where
  pub refused : {number : ℕ} → number ≡ lone_refusal p l rows m → (number ≡ 0 → ⊥) → refusal number 0 ≡ valuation p l rows m
  unfolding valuation
  refused e some = rw e (simp (ne_eqb (lone_refusal p l rows m) 0 (λ z. some (e ∙ z))))

  pub valued : {f : Figures} → lone_refusal p l rows m ≡ 0 → f ≡ figures (as_valued p l) rows m → values f ≡ valuation p l rows m
  unfolding valuation
  valued none e = rw e (simp (eq-eqb (lone_refusal p l rows m) 0 none))

module _ (p : Plan) (rows : List (List ℕ)) (m : Member) where
  own_figures : MemberRanges p rows m → Limited p rows m (values (figures p rows m))
  unfolding figures figures_at
  own_figures accepted =
      limits (setting_of p rows m) (sound p rows m accepted) (method_of p.method) m.age accepted.in_range.past_entry accepted.in_range.not_past

  pub limited : {f : Figures} → MemberRanges p rows m → f ≡ figures p rows m → Limited p rows m (values f)
  limited accepted e = subst (λ (f : Figures). Limited p rows m (values f)) (sym e) (own_figures accepted)

  pub limited_none : {o : Outcome Figures} {number line : ℕ} → o ≡ refusal number line → Limited p rows m o
  limited_none e = rw e tt

-- ---- demand 3, of every accepted member
in_ranges : (p : Plan) (l : List Amendment) (rows : List (List ℕ)) (before : ℕ) (m : Member) → Accepted p l rows before m → MemberRanges (as_valued p l) rows m
in_ranges p l rows before m ok = member_facts (as_valued p l) rows before m (valued_is_accepted p l rows ok.plan) ok.member

pub demand_3_forms : Demand3Forms
demand_3_forms p l rows before m ok =
    equal_forms (setting_of (as_valued p l) rows m) (sound (as_valued p l) rows m (in_ranges p l rows before m ok))

pub demand_3_limits : Demand3Limits
demand_3_limits p l rows before m ok =
    limits (setting_of (as_valued p l) rows m) (sound (as_valued p l) rows m (in_ranges p l rows before m ok))

pub demand_3_sharp_limits : Demand3SharpLimits
demand_3_sharp_limits p l rows before m ok =
    sharp_limits (setting_of (as_valued p l) rows m) (sound (as_valued p l) rows m (in_ranges p l rows before m ok))
