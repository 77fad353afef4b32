-- How large the figures of an accepted member can be, in cents: what their sums fit in.
use mathlib.Core.Bool.{Bool, true, false, cond}
use mathlib.Core.List.{List}
use mathlib.Core.Path.{◌≡◌, refl, sym}
use Prim.Native.Nat.{ℕ, zero, suc, ◌+◌, ◌-◌, ◌*◌, ◌≤◌, ◌<◌}
use native.Mathlib.Nat.{le_trans, mul-le-mul, mul-le-mul_left, mul-le-mul_right, le_of_mul-le-mul_right}
use native.Mathlib.Omega.{arith}
use lib.Dec.{ltb}
use borrow.Author.Tests.{ltb-true}
use Rattle.rounding.specs.Nearest.{nearest}
use Rattle.rounding.proofs.NearestLaws.{nearest_below, nearest_above, nearest_exact, nearest_mono, nearest_shrinks, nearest_le}
use Rattle.rates.specs.Table.{weight}
use Rattle.factors.specs.Basis.{Basis}
use Rattle.factors.specs.Factors.{S, step, G, T, Z}
use Rattle.factors.proofs.Equations.{G_below, Z_below}
use Rattle.factors.proofs.Sizes.{T_least, Z_least}
use Rattle.plan.specs.declared.Plan.{Plan}
use Rattle.plan.specs.declared.Member.{Member}
use Rattle.plan.specs.declared.Method.{Method}
use Rattle.plan.specs.declared.Method.TheVariants.{AB, BD, BP, CD, CP}
use Rattle.plan.specs.Benefit.{B}
use Rattle.plan.specs.Ranges.{PlanRanges, MemberRanges}
use Rattle.costs.specs.declared.Figures.{Figures}
use Rattle.costs.specs.Costs.{PV, cost, N, L}
use Rattle.costs.specs.Valuation.{method_of, plan_basis, setting_of, figures_at, figures}
use Rattle.parts.specs.Parts.{earned, divisor}
use Rattle.costs.proofs.Limits.{B_most}
use Rattle.costs.proofs.Needs.{worth_most, facts, sound, G_small, pay_least}
use Rattle.parts.proofs.PartLaws.{divided, earned_most, adds_most}

-- ---- the pay annuity covers the pension's
-- a year keeps it: what is paid at its start outweighs the two roundings
year_covers : (g z w pay p d : ℕ) → 0 < d → w ≤ 100000 → 1000 ≤ pay → g * w ≤ 71 * z → nearest (g * p) d * w ≤ 71 * (pay * S + nearest (z * p) d)
year_covers g z w pay p d some top least covers =
    let q = nearest (g * p) d in
    let t = nearest (z * p) d in
    let below = mul-le-mul_right w (nearest_below (g * p) d) in
    let less : 2 * (q * w) ≤ 142 * t + 71 + w = le_of_mul-le-mul_right {m = 2 * (q * w)} {n = 142 * t + 71 + w} {k = d} (omega (arith, nearest_above (z * p) d some, mul-le-mul_right p covers)) some in
    omega arith

module _ (b : Basis) (y x : ℕ) (to : x < b.r) (top : b.W x ≤ 100000) (weighty : (k : ℕ) → y ≤ k → k < b.r → 1000 ≤ b.W k) (small : G b x ≤ 71 * S) where
  covers : (n k : ℕ) → y ≤ k → k + n ≡ x → G b k * b.W x ≤ 71 * Z b k b.r
  unfolding step
  covers zero k from at =
      let here : k ≡ x = omega arith in
      rw here (omega (arith, mul-le-mul_right (b.W x) small, Z_least b x b.r to))
  covers (suc n) k from at =
      rw (G_below b k (omega arith), Z_below b k b.r (omega arith))
      (year_covers (G b (k + 1)) (Z b (k + 1) b.r) (b.W x) (b.W k) (b.P k) (100 * (10000 + b.i)) (omega arith) top (weighty k from (omega arith)) (covers n (k + 1) (omega arith) (omega arith)))

percent_small : (most g w z : ℕ) → g * w ≤ 71 * z → w ≤ 100000 → 1000 * S ≤ z → nearest (nearest (most * g) S * w * S) z ≤ most * 71 + 50
percent_small most g w z covers top least =
    let value = nearest (most * g) S in
    let below = mul-le-mul_right w (nearest_below (most * g) S) in
    let whole : value * w * S ≤ (most * 71 + 50) * z = omega (arith, mul-le-mul_left most covers) in
    omega (arith, nearest_mono (value * w * S) ((most * 71 + 50) * z) z (omega arith) whole, nearest_exact (most * 71 + 50) z (omega arith))

-- ---- the figures of an accepted member
-- the ceiling of a benefit, and 71 times that for the others; a normal cost by CP grows with the pay, but the pay annuity counts the later, larger pay with the same staying and discount as the pension
pub record SmallFigures (f : Figures) : Type 0 where
  pub benefit : f.benefit ≤ 100000000
  pub value : f.value ≤ 7100000000
  pub cost : f.cost ≤ 7100000050
  pub liability : f.liability ≤ 7100000000

module _ (p : Plan) (rows : List (List ℕ)) (m : Member) (accepted : MemberRanges p rows m) where
  abbrev b : Basis
  b = plan_basis p rows

  abbrev y : ℕ
  y = m.entry

  abbrev r : ℕ
  r = p.retire

  f : PlanRanges p rows
  f = facts p rows m accepted

  enters : y < r
  enters = accepted.in_range.enters

  value_small : (k : ℕ) → PV (setting_of p rows m) k ≤ 7100000000
  unfolding PV
  value_small k = omega (arith, worth_most (B p rows m p.retire) (G b k) (G_small p rows m accepted k), accepted.capped)

  -- a share of V is no more
  past_small : (method : Method) (k : ℕ) → m.entry ≤ k → k ≤ p.retire → nearest (PV (setting_of p rows m) k * earned (setting_of p rows m) k method) (divisor (setting_of p rows m) method) ≤ 7100000000
  past_small method k from to =
      le_trans (nearest_shrinks (PV (setting_of p rows m) k) _ _ (divided p rows m accepted method) (earned_most p rows m accepted method k from to)) (value_small k)

  liability_small : (method : Method) (k : ℕ) → m.entry ≤ k → k ≤ p.retire → L (setting_of p rows m) method k ≤ 7100000000
  unfolding L
  liability_small AB k from to =
      omega (arith, worth_most (B p rows m k) (G b k) (G_small p rows m accepted k), B_most (setting_of p rows m) (sound p rows m accepted) k from to)
  liability_small BD k from to = past_small BD k from to
  liability_small BP k from to = past_small BP k from to
  liability_small CD k from to = past_small CD k from to
  liability_small CP k from to = past_small CP k from to

  cost_small : (method : Method) (k : ℕ) → m.entry ≤ k → k < p.retire → cost (setting_of p rows m) method k ≤ 7100000050
  unfolding cost PV
  cost_small AB k from to =
      omega (arith, worth_most (B p rows m (k + 1) - B p rows m k) (G b k) (G_small p rows m accepted k), B_most (setting_of p rows m) (sound p rows m accepted) (k + 1) (omega arith) (omega arith))
  cost_small BD k from to = omega (arith, nearest_le (PV (setting_of p rows m) k) (r - y) (divided p rows m accepted BD), value_small k)
  cost_small BP k from to =
      omega (arith, nearest_shrinks (PV (setting_of p rows m) k) _ _ (divided p rows m accepted BP) (adds_most p rows m accepted BP k from to), value_small k)
  cost_small CD k from to =
      let top = B p rows m r in
      let some = divided p rows m accepted CD in
      omega (arith, nearest_mono (top * G b y) (top * 71 * S) (T b y r) some (omega (arith, mul-le-mul {n₁ = top} {n₂ = top} (omega arith) (G_small p rows m accepted y))), nearest_shrinks (top * 71) S (T b y r) some (T_least b y r enters), accepted.capped)
  cost_small CP k from to =
      let heavy = (f.table k (omega (arith, accepted.in_range.grown)) (omega (arith, f.head.retire.1))).weight in
      let weighty = (sound p rows m accepted).weighty in
      omega (arith, percent_small (B p rows m r) (G b y) (weight rows k) (Z b y r) (covers b y k to heavy weighty (G_small p rows m accepted k) (k - y) y (omega arith) (omega arith)) heavy (pay_least p rows m accepted), accepted.capped)

  pub figures_small : SmallFigures (figures p rows m)
  unfolding figures figures_at N
  figures_small =
      record {
        benefit = accepted.capped;
        value = value_small m.age;
        cost = pick (ltb m.age r) (λ t. cost_small (method_of p.method) m.age accepted.in_range.past_entry (ltb-true m.age r t)) refl;
        liability = liability_small (method_of p.method) m.age accepted.in_range.past_entry accepted.in_range.not_past;
      }
    where
      pick : (t : Bool) {n : ℕ} → (ltb m.age r ≡ true → n ≤ 7100000050) → t ≡ ltb m.age r → cond t n 0 ≤ 7100000050
      pick true h e = h (sym e)
      pick false h e = omega arith
