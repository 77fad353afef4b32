-- Payments of any yearly amounts w(k), w(k+1), .. at the start of each year, for those who stay, rounded and exact: what A, T, Z and C share.
-- Beside them what is only carried back, as G is.
use mathlib.Core.Path.{◌≡◌}
use Prim.Native.Nat.{ℕ, ◌+◌, ◌-◌, ◌*◌, ◌≤◌, ◌<◌}
use native.Mathlib.Nat.{le_refl, add-zero, add-suc}
use native.Mathlib.Omega.{arith}
use Rattle.fractions.specs.Ratio.{Ratio, whole, ◌⊕◌, Proper, Positive, ◌≼◌}
use Rattle.fractions.proofs.RatioLaws.{whole_proper, over_proper, ⊕-proper, ⊗-proper, whole_positive, ⊕-positive, whole-⊕}
use Rattle.fractions.proofs.OrderLaws.{zero-≼, ≼_refl, ◌∙≼◌, ⊕-mono, ⊗-mono, whole-≼}
use Rattle.factors.specs.Recursion.{carried}
use Rattle.factors.specs.Basis.{Basis, Fair}
use Rattle.factors.specs.Factors.{step, step*}
use Rattle.factors.proofs.Carried.{carried_before, carried_both, carried_each, carried_split}
use Rattle.factors.proofs.Distance.{Halves, Part, halves_plus}
use Rattle.factors.proofs.YearStep.{step_mono, step_shrinks, exact_step_shrinks, step_halves, step_part}

module _ (b : Basis) where
  -- a year of an annuity: the amount of the year, and the step of what follows
  abbrev pub paying : (ℕ → ℕ) → ℕ → ℕ → ℕ
  paying w j f = w j + step b j f

  abbrev pub paying* : (ℕ → ℕ) → ℕ → Ratio → Ratio
  paying* w j f = whole (w j) ⊕ step* b j f

  -- ---- every exact lower is above 0
  pub step*_proper : (k : ℕ) {f : Ratio} → Proper f → Proper (step* b k f)
  unfolding step*
  step*_proper k h = ⊗-proper h (over_proper (b.P k) (omega arith))

  pub deferred_proper : {start : Ratio} → Proper start → (k n : ℕ) → Proper (carried (step* b) start k n)
  deferred_proper h k n = carried_each (λ m f. Proper f) (step* b) _ h k n (λ j m from to f. step*_proper j)

  pub annuity_proper : (w : ℕ → ℕ) {start : Ratio} → Proper start → (k n : ℕ) → Proper (carried (paying* w) start k n)
  annuity_proper w h k n =
      carried_each (λ m f. Proper f) (paying* w) _ h k n (λ j m from to f g. ⊕-proper (whole_proper (w j)) (step*_proper j g))

  -- ---- the first amount is in it
  pub annuity_least : (w : ℕ → ℕ) (start k e : ℕ) → k < e → w k ≤ carried (paying w) start k (e - k)
  annuity_least w start k e h = omega (arith, carried_before (paying w) start k e h)

  pub annuity_positive : (w : ℕ → ℕ) {start : Ratio} → Proper start → (k e : ℕ) → k < e → 0 < w k → Positive (carried (paying* w) start k (e - k))
  annuity_positive w {start} h k e lt some =
      rw (carried_before (paying* w) start k e lt) (⊕-positive (whole_positive some) (step*_proper k (annuity_proper w h (k + 1) (e - (k + 1)))))

  module _ (fair : Fair b) where
    -- ---- at most so many amounts
    pub step_le : (k f : ℕ) → step b k f ≤ f
    unfolding step
    step_le k f = step_shrinks f (b.P k) _ (omega arith) (omega (arith, fair.stays k))

    pub step*_le : (k : ℕ) {f : Ratio} → Proper f → step* b k f ≼ f
    unfolding step*
    step*_le k {f} h = exact_step_shrinks f (b.P k) _ (omega arith) (omega (arith, fair.stays k)) h

    pub annuity_most : (w : ℕ → ℕ) (s start m k n : ℕ) → start ≤ m * s → ((j : ℕ) → k ≤ j → j < k + n → w j ≤ s)
        → carried (paying w) start k n ≤ (m + n) * s
    annuity_most w s start m k n first amounts =
        carried_each (λ n f. f ≤ (m + n) * s) (paying w) start (omega arith) k n
        (λ j n from to f le. omega (arith, amounts j from to, step_le j f))

    pub annuity*_most : (w : ℕ → ℕ) (s : ℕ) (start : Ratio) (m k n : ℕ) → start ≼ whole (m * s)
        → ((j : ℕ) → k ≤ j → j < k + n → w j ≤ s) → carried (paying* w) start k n ≼ whole ((m + n) * s)
    annuity*_most w s start m k n first amounts =
        carried_each (λ n f. f ≼ whole ((m + n) * s)) (paying* w) start (rw (add-zero m) first) k n
        (λ j n from to f le.
        ⊕-mono (whole-≼ (amounts j from to)) (step*_le j le.left ∙≼ le)
        ∙≼ rw whole-⊕ (whole-≼ (omega arith)))

    pub deferred_most : (start k n : ℕ) → carried (step b) start k n ≤ start
    deferred_most start k n =
        carried_each (λ n f. f ≤ start) (step b) start (le_refl start) k n (λ j n from to f le. omega (arith, step_le j f))

    pub deferred*_most : (start : Ratio) (k n : ℕ) → Proper start → carried (step* b) start k n ≼ start
    deferred*_most start k n h =
        carried_each (λ n f. f ≼ start) (step* b) start (≼_refl h) k n (λ j n from to f le. step*_le j le.left ∙≼ le)

    -- ---- a later end gives no less
    step-≤ : (k : ℕ) {f g : ℕ} → f ≤ g → step b k f ≤ step b k g
    unfolding step
    step-≤ k {f} {g} h = step_mono f g (b.P k) _ (omega arith) h

    pub annuity_longer : (w : ℕ → ℕ) (k x r : ℕ) → k ≤ x → x ≤ r → carried (paying w) 0 k (x - k) ≤ carried (paying w) 0 k (r - k)
    annuity_longer w k x r kx xr =
        let years : r - k ≡ x - k + (r - x) = omega arith in
        rw (years, carried_split (paying w) 0 k (x - k) (r - x))
        (carried_both (λ n f g. f ≤ g) (paying w) (paying w) 0 (carried (paying w) 0 (k + (x - k)) (r - x)) (omega arith) k (x - k)
        (λ j n from to f g le. omega (arith, step-≤ j le)))

    -- ---- how far the rounded lies from the exact
    pub annuity_part : (w : ℕ → ℕ) (s start : ℕ) (start* : Ratio) (k n : ℕ) → Part s start start*
        → ((j : ℕ) → k ≤ j → j < k + n → s ≤ w j) → Part s (carried (paying w) start k n) (carried (paying* w) start* k n)
    unfolding step step*
    annuity_part w s start start* k n first amounts =
        carried_both (λ n f g. Part s f g) (paying w) (paying* w) start start* first k n
        (λ j n from to f g near. step_part s f g (b.P j) _ (w j) (omega arith) (amounts j from to) near)

    pub annuity_halves : (w : ℕ → ℕ) (m start : ℕ) (start* : Ratio) (k n : ℕ) → Halves m start start*
        → Halves (m + n) (carried (paying w) start k n) (carried (paying* w) start* k n)
    unfolding step step*
    annuity_halves w m start start* k n first =
        carried_both (λ n f g. Halves (m + n) f g) (paying w) (paying* w) start start* (rw (add-zero m) first) k n
        (λ j n from to f g near.
        rw (add-suc m n) (halves_plus (w j) (step_halves (m + n) f g (b.P j) _ (omega arith) (omega (arith, fair.stays j)) near)))

    pub deferred_halves : (m start : ℕ) (start* : Ratio) (k n : ℕ) → Halves m start start*
        → Halves (m + n) (carried (step b) start k n) (carried (step* b) start* k n)
    unfolding step step*
    deferred_halves m start start* k n first =
        carried_both (λ n f g. Halves (m + n) f g) (step b) (step* b) start start* (rw (add-zero m) first) k n
        (λ j n from to f g near.
        rw (add-suc m n) (step_halves (m + n) f g (b.P j) _ (omega arith) (omega (arith, fair.stays j)) near))

  pub annuity*_longer : (w : ℕ → ℕ) (k x r : ℕ) → k ≤ x → x ≤ r → carried (paying* w) (whole 0) k (x - k) ≼ carried (paying* w) (whole 0) k (r - k)
  unfolding step*
  annuity*_longer w k x r kx xr =
      let years : r - k ≡ x - k + (r - x) = omega arith in
      rw (years, carried_split (paying* w) (whole 0) k (x - k) (r - x))
      (carried_both (λ n f g. f ≼ g) (paying* w) (paying* w) (whole 0) (carried (paying* w) (whole 0) (k + (x - k)) (r - x))
      (zero-≼ (annuity_proper w (whole_proper 0) (k + (x - k)) (r - x))) k (x - k)
      (λ j n from to f g le. ⊕-mono (≼_refl (whole_proper (w j))) (⊗-mono le (≼_refl (over_proper (b.P j) (omega arith))))))
