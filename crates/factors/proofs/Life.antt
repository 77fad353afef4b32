-- The life annuity A, rounded and exact: it has a payment at least and at most one for each age, and how far the two lie apart.
use Prim.Native.Nat.{ℕ, ◌-◌, ◌*◌, ◌≤◌}
use native.Mathlib.Nat.{le_refl}
use native.Mathlib.Omega.{arith}
use Rattle.fractions.specs.Ratio.{◌over◌, whole, Proper, ◌≼◌}
use Rattle.fractions.proofs.RatioLaws.{whole_proper}
use Rattle.fractions.proofs.OrderLaws.{≼_refl, ◌∙≼◌, ≼-⊕, whole-≼}
use Rattle.factors.specs.Basis.{Basis, Fair}
use Rattle.factors.specs.Factors.{S, A, A*}
use Rattle.factors.proofs.Carried.{carried_each}
use Rattle.factors.proofs.Distance.{Halves, halves_more}
use Rattle.factors.proofs.Annuities.{paying, paying*, step*_proper, annuity_proper, annuity_most, annuity*_most, annuity_halves}

module _ (b : Basis) where
  pub A*_proper : (k : ℕ) → Proper (A* b k)
  unfolding A*
  A*_proper k = annuity_proper b (λ j. S) (whole_proper S) k (120 - k)

  pub A_least : (k : ℕ) → S ≤ A b k
  unfolding A
  A_least k = carried_each (λ n f. S ≤ f) (paying b (λ j. S)) S (le_refl S) k (120 - k) (λ j n from to f le. omega arith)

  pub A*_least : (k : ℕ) → whole S ≼ A* b k
  unfolding A*
  A*_least k =
      carried_each (λ n f. whole S ≼ f) (paying* b (λ j. S)) (whole S) (≼_refl (whole_proper S)) k (120 - k)
      (λ j n from to f le. ≼-⊕ (whole_proper S) (step*_proper b j le.right))

  module _ (fair : Fair b) where
    pub A_most : (k : ℕ) → k ≤ 120 → A b k ≤ (121 - k) * S
    unfolding A
    A_most k h = omega (arith, annuity_most b fair (λ j. S) S S 1 k (120 - k) (omega arith) (λ j from to. le_refl S))

    pub A*_most : (k : ℕ) → k ≤ 120 → A* b k ≼ whole ((121 - k) * S)
    unfolding A*
    A*_most k h =
        annuity*_most b fair (λ j. S) S (whole S) 1 k (120 - k) (whole-≼ (omega arith)) (λ j from to. le_refl S)
        ∙≼ whole-≼ (omega arith)

    -- A(120) is exact, and each age below it adds half a billionth at most
    pub A_halves : (k : ℕ) → Halves (120 - k) (A b k) (A* b k)
    unfolding A A* whole ◌over◌
    A_halves k = halves_more (120 - k) (omega arith) (annuity_halves b fair (λ j. S) 0 S (whole S) k (120 - k) (omega arith))
