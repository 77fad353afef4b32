-- The parts of a member's figures at an age k: six numbers, whatever engine works them, of which rules 9.1 to 9.8 make V, N and L by any of the five methods. That these are the figures of costs/specs/Valuation.antt is one law, `FromParts`.
use Rattle.std.specs.Prelude.{◌≡◌, cond, List, ℕ, ◌+◌, ◌-◌, ◌*◌, ◌≤◌, ◌<◌, ltb}
use Rattle.rounding.specs.Nearest.{nearest}
use Rattle.factors.specs.Factors.{S, G, T, Z}
use Rattle.plan.specs.Weights.{summed}
use Rattle.plan.specs.declared.Plan.{Plan}
use Rattle.plan.specs.declared.Member.{Member}
use Rattle.plan.specs.declared.Method.{Method}
use Rattle.plan.specs.declared.Method.TheVariants.{AB, BD, BP, CD, CP}
use Rattle.plan.specs.Ranges.{MemberRanges}
use Rattle.costs.specs.declared.Figures.{Figures}
use Rattle.parts.specs.declared.Parts.{Parts}
use Rattle.costs.specs.Setting.{Setting}
use Rattle.costs.specs.Costs.{r, W, M}
use Rattle.costs.specs.Valuation.{setting_of, figures_at}

-- ---- the parts of a setting
module _ (c : Setting) where
  open c use {basis, y}

  -- rules 9.2 to 9.6: what N and L are divided by
  abbrev pub divisor : Method → ℕ
  divisor AB = S
  divisor BD = r c - y
  divisor BP = M c
  divisor CD = T basis y (r c)
  divisor CP = Z basis y (r c)

module _ (c : Setting) (k : ℕ) where
  open c use {basis, B, y}

  -- rules 9.2 to 9.6: what L counts, from entry up to k, in benefit, years, weights or one of the two annuities
  abbrev pub earned : Method → ℕ
  earned AB = B k
  earned BD = k - y
  earned BP = summed (W c) y (k - y)
  earned CD = T basis y k
  earned CP = Z basis y k

  -- rules 9.2 to 9.6: what N counts, that of the year from k on; of an annuity, what is paid in the year
  abbrev pub adds : Method → ℕ
  adds AB = B (k + 1) - B k
  adds BD = 1
  adds BP = W c k
  adds CD = 1
  adds CP = W c k

  -- rule 9.7: nothing is added from r on
  abbrev pub added : Method → ℕ
  added m = cond (ltb k (r c)) (adds m) 0

  -- B(r), G(k), G(y), and these three
  unfoldable pub parts_at : Method → Parts
  parts_at m =
      record { benefit = B (r c); deferred = G basis k; entered = G basis y; earned = earned m; added = added m; divisor = divisor c m }

-- ---- the figures from their parts
module _ (q : Parts) where
  -- rule 9.1: V(k)
  abbrev pub value_from : ℕ
  value_from = nearest (q.benefit * q.deferred) S

  -- rules 9.2 to 9.6: N is this, times what is added: G(k), V(k), B(r) × G(y) unrounded, or V(y) × S
  abbrev pub cost_factor : Method → ℕ
  cost_factor AB = q.deferred
  cost_factor BD = value_from
  cost_factor BP = value_from
  cost_factor CD = q.benefit * q.entered
  cost_factor CP = nearest (q.benefit * q.entered) S * S

  -- and L is this, times what is earned
  abbrev pub liability_factor : Method → ℕ
  liability_factor AB = q.deferred
  liability_factor BD = value_from
  liability_factor BP = value_from
  liability_factor CD = value_from
  liability_factor CP = value_from

  -- rule 9.8: N and L are rounded once each
  unfoldable pub figures_from : Method → Figures
  figures_from m =
      record { benefit = q.benefit; value = value_from; cost = nearest (cost_factor m * q.added) q.divisor; liability = nearest (liability_factor m * q.earned) q.divisor }

-- parts so small that each product and each figure fits a word, by any method: rule 7.8, sizes of factors, and no share above 1
pub record SmallParts (q : Parts) : Type 0 where
  pub benefit : q.benefit ≤ 100000000
  pub deferred : q.deferred ≤ 71 * S
  pub entered : q.entered ≤ 71 * S
  pub earned : q.earned ≤ q.divisor
  pub added : q.added ≤ q.divisor
  pub divisor : 0 < q.divisor

-- ---- the law: of every accepted member, by each of the five methods and at each age of its own (rule 9.9), the parts fit, and what they give are the figures
pub record Gives (p : Plan) (rows : List (List ℕ)) (m : Member) (method : Method) (k : ℕ) : Type 0 where
  pub fits : SmallParts (parts_at (setting_of p rows m) k method)
  pub figures : figures_from (parts_at (setting_of p rows m) k method) method ≡ figures_at p rows m method k

abbrev pub FromParts : Type 0
FromParts =
    (p : Plan) (rows : List (List ℕ)) (m : Member) → MemberRanges p rows m
    → (method : Method) (k : ℕ) → m.entry ≤ k → k ≤ p.retire → Gives p rows m method k
