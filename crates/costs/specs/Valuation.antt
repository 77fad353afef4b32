-- The figures of a plan and a member handed in as plain values, and the answer for a lone member (`plain_engine::value_member`).
use Rattle.std.specs.Prelude.{◌≡◌, cond, List, ℕ, ◌≤◌, eqb}
use Rattle.fractions.specs.Ratio.{◌over◌}
use Rattle.factors.specs.Basis.{Basis, basis, payable}
use Rattle.factors.specs.Accuracy.{Within}
use Rattle.plan.specs.declared.Plan.{Plan}
use Rattle.plan.specs.declared.Amendment.{Amendment}
use Rattle.plan.specs.declared.Member.{Member}
use Rattle.plan.specs.declared.Method.{Method}
use Rattle.plan.specs.declared.Method.TheVariants.{AB, BD, BP, CD, CP}
use Rattle.plan.specs.Benefit.{B}
use Rattle.amendments.specs.Force.{as_valued}
use Rattle.rule_order.specs.Acceptance.{amended_refusal, member_refusal, lone_refusal}
use Rattle.costs.specs.declared.Figures.{Figures}
use Rattle.rules.specs.Outcome.{Outcome, values, refusal}
use Rattle.costs.specs.Setting.{Setting}
use Rattle.costs.specs.Costs.{PV, N, N*, L, L*}
use Rattle.costs.specs.Demand3.{N_most, FormsAgree, WithinDemand, WithinLimits}

-- rule 5.4, a method's code: 1 AB, 2 BD, 3 BP, 4 CD, 5 CP
unfoldable pub method_of : ℕ → Method
method_of code = cond (eqb code 1) AB (cond (eqb code 2) BD (cond (eqb code 3) BP (cond (eqb code 4) CD CP)))

-- the plan's basis
abbrev pub plan_basis : Plan → List (List ℕ) → Basis
plan_basis p rows = payable p.pay (basis rows p.retire p.interest)

module _ (p : Plan) (rows : List (List ℕ)) (m : Member) where
  -- what the figures rest on
  abbrev pub setting_of : Setting
  setting_of = record { basis = plan_basis p rows; B = B p rows m; y = m.entry }

  -- rule 9.9, the figures at age k by any method: B(r), V(k), N and L
  unfoldable pub figures_at : Method → ℕ → Figures
  figures_at method k =
      record { benefit = B p rows m p.retire; value = PV setting_of k; cost = N setting_of method k; liability = L setting_of method k }

  -- rule 9.11, the figures that are printed: at the member's own age, by the plan's own method
  unfoldable pub figures : Figures
  figures = figures_at (method_of p.method) m.age

  -- rule 10.9, of an answer: N and L lie within 15 cents of their exact fractions, N of CP within 15 × W(x) / W(y)
  abbrev pub Limited : Outcome Figures → Type 0
  Limited (values f) =
      Within (N_most setting_of (method_of p.method) m.age) f.cost (N* setting_of (method_of p.method) m.age)
      × Within (15 over 1) f.liability (L* setting_of (method_of p.method) m.age)
  Limited (refusal number line) = Unit {0}

-- rules 5.3 and 2.13: the figures under the plan as it is valued, or the refusal with line 0
unfoldable pub valuation : Plan → List Amendment → List (List ℕ) → Member → Outcome Figures
valuation p l rows m =
    let number = lone_refusal p l rows m in
    cond (eqb number 0) (values (figures (as_valued p l) rows m)) (refusal number 0)

-- ---- demand 3, of every member that the rules accept: whatever the amendments and the id before it, each age of its own, each of the five methods
pub record Accepted (p : Plan) (l : List Amendment) (rows : List (List ℕ)) (before : ℕ) (m : Member) : Type 0 where
  pub plan : amended_refusal p l rows ≡ 0
  pub member : member_refusal (as_valued p l) rows before m ≡ 0

-- what holds of a setting, a method and an age, holds of every accepted member, under the plan as it is valued
abbrev pub OfEveryAccepted : (Setting → Method → ℕ → Type 0) → Type 0
OfEveryAccepted P =
    (p : Plan) (l : List Amendment) (rows : List (List ℕ)) (before : ℕ) (m : Member) → Accepted p l rows before m
    → (method : Method) (k : ℕ) → m.entry ≤ k → k ≤ p.retire → P (setting_of (as_valued p l) rows m) method k

-- rule 10.8: the two forms of the liability are equal fractions
abbrev pub Demand3Forms : Type 0
Demand3Forms = OfEveryAccepted FormsAgree

-- rule 10.9: N and L lie within 15 cents of their exact fractions, N of CP within 15 × W(k) / W(y)
abbrev pub Demand3Limits : Type 0
Demand3Limits = OfEveryAccepted WithinDemand

-- and V, N and L within the limits by the benefit, which are sharper
abbrev pub Demand3SharpLimits : Type 0
Demand3SharpLimits = OfEveryAccepted WithinLimits
