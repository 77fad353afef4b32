-- The parts of an accepted member fit, and the figures from them are its figures, by each of the five methods.
use mathlib.Core.Path.{◌≡◌, refl, ap, ◌∙◌}
use mathlib.Core.Bool.{Bool, true, false, cond}
use mathlib.Core.List.{List}
use Prim.Native.Nat.{ℕ, ◌+◌, ◌*◌, ◌≤◌, ◌<◌}
use native.Mathlib.Nat.{mul_comm, mul_right_comm, mul-one, mul-zero, zero-mul}
use native.Mathlib.Omega.{arith}
use lib.Dec.{ltb}
use borrow.Author.Tests.{ltb-true}
use Rattle.rounding.specs.Nearest.{nearest}
use Rattle.rounding.proofs.NearestLaws.{nearest_exact}
use Rattle.factors.proofs.Sizes.{T_least, T_longer, Z_longer}
use Rattle.plan.specs.declared.Plan.{Plan}
use Rattle.plan.specs.declared.Member.{Member}
use Rattle.plan.specs.declared.Method.{Method}
use Rattle.plan.specs.declared.Method.TheVariants.{AB, BD, BP, CD, CP}
use Rattle.plan.specs.Ranges.{MemberRanges}
use Rattle.costs.specs.Setting.{Setting}
use Rattle.costs.specs.Costs.{PV, cost, N, L}
use Rattle.costs.specs.Valuation.{method_of, plan_basis, setting_of, figures_at, figures}
use Rattle.parts.specs.declared.Parts.{Parts}
use Rattle.parts.specs.Parts.{earned, adds, divisor, parts_at, cost_factor, liability_factor, figures_from, SmallParts, FromParts}
use Rattle.costs.proofs.RollForward.{M_positive}
use Rattle.costs.proofs.Limits.{B_most, M_split, W_most}
use Rattle.costs.proofs.Needs.{facts, plan_fair, sound, G_small, pay_least}

module _ (p : Plan) (rows : List (List ℕ)) (m : Member) (accepted : MemberRanges p rows m) where
  abbrev c : Setting
  c = setting_of p rows m

  -- ---- the parts fit
  pub divided : (method : Method) → 0 < divisor c method
  divided AB = omega arith
  divided BD = omega (arith, accepted.in_range.enters)
  divided BP = M_positive c (sound p rows m accepted)
  divided CD = omega (arith, T_least (plan_basis p rows) m.entry p.retire accepted.in_range.enters)
  divided CP = omega (arith, pay_least p rows m accepted)

  pub earned_most : (method : Method) (k : ℕ) → m.entry ≤ k → k ≤ p.retire → earned c k method ≤ divisor c method
  earned_most AB k from to = omega (arith, B_most c (sound p rows m accepted) k from to)
  earned_most BD k from to = omega arith
  earned_most BP k from to = omega (arith, M_split c (sound p rows m accepted) k from to)
  earned_most CD k from to = T_longer (plan_basis p rows) (plan_fair p rows) m.entry k p.retire from to
  earned_most CP k from to = Z_longer (plan_basis p rows) (plan_fair p rows) m.entry k p.retire from to

  pub adds_most : (method : Method) (k : ℕ) → m.entry ≤ k → k < p.retire → adds c k method ≤ divisor c method
  adds_most AB k from below = omega (arith, B_most c (sound p rows m accepted) (k + 1) (omega arith) (omega arith))
  adds_most BD k from below = divided BD
  adds_most BP k from below = W_most c (sound p rows m accepted) k from below
  adds_most CD k from below = divided CD
  adds_most CP k from below =
      let f = facts p rows m accepted in
      omega (arith, pay_least p rows m accepted, (f.table k (omega (arith, accepted.in_range.grown)) (omega (arith, f.head.retire.1))).weight)

  added_most : (method : Method) (k : ℕ) → m.entry ≤ k → (below : Bool) → ltb k p.retire ≡ below → cond below (adds c k method) 0 ≤ divisor c method
  added_most method k from true e = adds_most method k from (ltb-true k p.retire e)
  added_most method k from false e = omega arith

  -- ---- and give the figures
  costs_below : (method : Method) (k : ℕ) → nearest (cost_factor (parts_at c k method) method * adds c k method) (divisor c method) ≡ cost c method k
  unfolding cost PV parts_at
  costs_below AB k = rw mul_comm
  costs_below BD k = rw mul-one
  costs_below BP k = refl
  costs_below CD k = rw mul-one
  costs_below CP k = rw mul_right_comm

  costs : (method : Method) (k : ℕ) (below : Bool) → nearest (cost_factor (parts_at c k method) method * cond below (adds c k method) 0) (divisor c method) ≡ cond below (cost c method k) 0
  costs method k true = costs_below method k
  costs method k false = rw mul-zero (rw zero-mul at (nearest_exact 0 (divisor c method) (divided method)))

  liabilities : (method : Method) (k : ℕ) → nearest (liability_factor (parts_at c k method) method * earned c k method) (divisor c method) ≡ L c method k
  unfolding L PV parts_at
  liabilities AB k = rw mul_comm
  liabilities BD k = refl
  liabilities BP k = refl
  liabilities CD k = refl
  liabilities CP k = refl

pub from_parts : FromParts
unfolding figures_from figures_at N PV parts_at
from_parts p rows m accepted method k from to =
    record {
      fits = record {
        benefit = accepted.capped;
        deferred = G_small p rows m accepted k;
        entered = G_small p rows m accepted m.entry;
        earned = earned_most p rows m accepted method k from to;
        added = added_most p rows m accepted method k from (ltb k p.retire) refl;
        divisor = divided p rows m accepted method;
      };
      figures = λ i. record {
        benefit = (setting_of p rows m).B p.retire;
        value = PV (setting_of p rows m) k;
        cost = costs p rows m accepted method k (ltb k p.retire) i;
        liability = liabilities p rows m accepted method k i;
      };
    }

-- so whatever gives the parts at a member's own age, by the plan's method, gives its figures: all that an engine cites
pub own_figures : (p : Plan) (rows : List (List ℕ)) (m : Member) → MemberRanges p rows m → {method : Method} {q : Parts} → method ≡ method_of p.method → q ≡ parts_at (setting_of p rows m) m.age method → SmallParts q × (figures_from q method ≡ figures p rows m)
unfolding figures
own_figures p rows m accepted {method} {q} by is =
    let law = from_parts p rows m accepted method m.age accepted.in_range.past_entry accepted.in_range.not_past in
    (rw is law.fits, rw is law.figures ∙ ap (λ (method : Method). figures_at p rows m method m.age) by)
