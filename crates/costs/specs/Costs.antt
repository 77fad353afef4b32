-- Present value, normal cost and liability by the five cost methods: RULES section 9, rounded, and rule 10.1, exact, side by side, with the textbook's equation numbers.
-- All are in cents. Rule 9.9: k is any age of the member, and its pay goes on from its own age x.
use Rattle.std.specs.Prelude.{cond, ℕ, zero, suc, ◌+◌, ◌-◌, ◌*◌, ltb}
use Rattle.rounding.specs.Nearest.{nearest}
use Rattle.fractions.specs.Ratio.{Ratio, whole, ◌⊕◌, ◌⊗◌, ◌⊘◌}
use Rattle.factors.specs.Factors.{S, G, G*, T, T*, Z, Z*, v}
use Rattle.plan.specs.Weights.{summed}
use Rattle.plan.specs.declared.Method.{Method}
use Rattle.plan.specs.declared.Method.TheVariants.{AB, BD, BP, CD, CP}
use Rattle.costs.specs.Setting.{Setting}

module _ (c : Setting) where
  open c use {basis, B, y}

  abbrev pub r : ℕ
  r = basis.r

  abbrev pub W : ℕ → ℕ
  W = basis.W

  -- rule 9.4, M: the weights of all years of service, summed
  abbrev pub M : ℕ
  M = summed W y (r - y)

  -- rule 9.1, the present value V(k) of the benefit (5.4a)
  unfoldable pub PV : ℕ → ℕ
  PV k = nearest (B r * G basis k) S

  unfoldable pub PV* : ℕ → Ratio
  PV* k = whole (B r) ⊗ G* basis k ⊘ whole S

  -- rules 9.2 to 9.6, N below r: AB (6.7a), BD (6.10), BP (6.11), CD (6.14b), CP (6.15)
  unfoldable pub cost : Method → ℕ → ℕ
  cost AB k = nearest ((B (k + 1) - B k) * G basis k) S
  cost BD k = nearest (PV k) (r - y)
  cost BP k = nearest (PV k * W k) M
  cost CD k = nearest (B r * G basis y) (T basis y r)
  cost CP k = nearest (PV y * W k * S) (Z basis y r)

  unfoldable pub cost* : Method → ℕ → Ratio
  cost* AB k = whole (B (k + 1) - B k) ⊗ G* basis k ⊘ whole S
  cost* BD k = PV* k ⊘ whole (r - y)
  cost* BP k = PV* k ⊗ whole (W k) ⊘ whole M
  cost* CD k = whole (B r) ⊗ G* basis y ⊘ T* basis y r
  cost* CP k = PV* y ⊗ whole (W k * S) ⊘ Z* basis y r

  -- rule 9.7, the normal cost N: nothing is left to fund at r
  unfoldable pub N : Method → ℕ → ℕ
  N m k = cond (ltb k r) (cost m k) 0

  unfoldable pub N* : Method → ℕ → Ratio
  N* m k = cond (ltb k r) (cost* m k) (whole 0)

  -- rules 9.2 to 9.6, the liability L, the part already earned: AB (5.5), BD (5.6), BP (5.7), CD (5.8), CP (5.9)
  unfoldable pub L : Method → ℕ → ℕ
  L AB k = nearest (B k * G basis k) S
  L BD k = nearest (PV k * (k - y)) (r - y)
  L BP k = nearest (PV k * summed W y (k - y)) M
  L CD k = nearest (PV k * T basis y k) (T basis y r)
  L CP k = nearest (PV k * Z basis y k) (Z basis y r)

  unfoldable pub L* : Method → ℕ → Ratio
  L* AB k = whole (B k) ⊗ G* basis k ⊘ whole S
  L* BD k = PV* k ⊗ whole (k - y) ⊘ whole (r - y)
  L* BP k = PV* k ⊗ whole (summed W y (k - y)) ⊘ whole M
  L* CD k = PV* k ⊗ T* basis y k ⊘ T* basis y r
  L* CP k = PV* k ⊗ Z* basis y k ⊘ Z* basis y r

  -- rule 10.7, the future normal costs: each exact N as it counts at k, summed, here over the n ages from j on
  unfoldable pub costs_from : Method → (k j n : ℕ) → Ratio
  costs_from m k j zero = whole 0
  costs_from m k j (suc n) = N* m j ⊗ v basis k j ⊕ costs_from m k (suc j) n

  abbrev pub future : Method → ℕ → Ratio
  future m k = costs_from m k k (r - k)
