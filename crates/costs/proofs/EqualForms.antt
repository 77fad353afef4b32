-- Demand 3, equal forms: the liability with the future normal costs is the present value, so the part already earned is the benefits less the future normal costs.
-- By induction down from r, where the liability is the present value, through roll-forward.
use mathlib.Core.Path.{◌≡◌}
use Prim.Native.Nat.{ℕ, zero, suc, ◌+◌, ◌-◌, ◌*◌, ◌≤◌, ◌<◌}
use native.Mathlib.Numerals.{add-one}
use native.Mathlib.Omega.{arith}
use Rattle.fractions.specs.Ratio.{◌over◌, ◌⊕◌, ◌⊗◌, Proper, ◌≈◌}
use Rattle.fractions.proofs.RatioLaws.{⊕-assoc, ⊕-zero, ⊗-one, whole_proper, over_proper, ⊕-proper, ⊗-proper, Ac}
use Rattle.fractions.proofs.EqualLaws.{≈-refl, ≈-of, ≈-sym, ◌∙≈◌, ⊕-cong, ⊗-cong, zero-⊗, ⊕-⊗}
use Rattle.fractions.proofs.FractionLaws.{≐-less}
use Rattle.factors.specs.Factors.{step*, v}
use Rattle.factors.proofs.Equations.{v_at, v_below}
use Rattle.factors.proofs.Sizes.{v_proper}
use Rattle.plan.specs.declared.Method.{Method}
use Rattle.costs.specs.Setting.{Setting, SoundSetting}
use Rattle.costs.specs.Costs.{r, PV*, N*, L*, costs_from, future}
use Rattle.costs.specs.Demand3.{EqualForms}
use Rattle.costs.proofs.RollForward.{PV*_step, L*_proper, N*_proper, last, roll_forward}

module _ (c : Setting) (ok : SoundSetting c) (m : Method) where
  open c use {basis, y}

  rate_proper : (k : ℕ) → Proper (basis.P k over (100 * (10000 + basis.i)))
  rate_proper k = over_proper (basis.P k) (omega arith)

  term_proper : (k j : ℕ) → Proper (N* c m j ⊗ v basis k j)
  term_proper k j = ⊗-proper (N*_proper c ok m j) (v_proper basis k j)

  costs_proper : (k j n : ℕ) → Proper (costs_from c m k j n)
  unfolding costs_from
  costs_proper k j zero = whole_proper 0
  costs_proper k j (suc n) = ⊕-proper (term_proper k j) (costs_proper k (suc j) n)

  -- later costs count at k for the year step of what they count for at k + 1
  costs_step : (k j n : ℕ) → k < j → costs_from c m k j n ≈ step* basis k (costs_from c m (k + 1) j n)
  unfolding costs_from step*
  costs_step k j zero h = ≈-sym (zero-⊗ (rate_proper k))
  costs_step k j (suc n) h =
      ⊕-cong (≈-of (term_proper k j) (rw (v_below basis k j) (simp Ac))) (costs_step k (suc j) n (omega arith))
      ∙≈ ≈-sym (⊕-⊗ (term_proper (k + 1) j) (costs_proper (k + 1) (suc j) n) (rate_proper k))

  -- n ages before r
  balance : (n k : ℕ) → k + n ≡ r c → y ≤ k → L* c m k ⊕ costs_from c m k k n ≈ PV* c k
  unfolding costs_from step*
  balance zero k e h = let k_is : k ≡ r c = omega arith in rw (⊕-zero, k_is) (last c ok m)
  balance (suc n) k e h =
      let below : k < r c = omega arith in
      rw (v_at basis k, ⊗-one, ← ⊕-assoc, ← (add-one k), PV*_step c k)
      (⊕-cong (roll_forward c ok m k h below) (costs_step k (k + 1) n (omega arith))
      ∙≈ ≈-sym (⊕-⊗ (L*_proper c ok m (k + 1)) (costs_proper (k + 1) (k + 1) n) (rate_proper k))
      ∙≈ ⊗-cong (balance n (k + 1) (omega arith) (omega arith)) (≈-refl (rate_proper k)))

  pub earned_and_future : (k : ℕ) → y ≤ k → k ≤ r c → L* c m k ⊕ future c m k ≈ PV* c k
  earned_and_future k a b = balance (r c - k) k (omega arith) a

pub equal_forms : EqualForms
equal_forms c ok m k a b =
    ≐-less (L*_proper c ok m k) (costs_proper c ok m k k (r c - k)) (earned_and_future c ok m k a b)
