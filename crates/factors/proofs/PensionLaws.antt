-- The annuity that a pension is worth at retirement (rule 8.5), paid by the year or by the month: the rule's equations, how large it is, and
-- how far it lies from its exact fraction.
use mathlib.Core.Path.{◌≡◌}
use mathlib.Core.Bool.{Bool, true, false, cond}
use Prim.Native.Nat.{◌+◌, ◌-◌, ◌*◌, ◌≤◌}
use native.Mathlib.Omega.{arith}
use lib.Dec.{eqb}
use borrow.Author.Tests.{eq-eqb, ne_eqb}
use Rattle.fractions.specs.Ratio.{◌over◌, whole, ◌⊕◌, ◌⊗◌, Proper, ◌≈◌, ◌≼◌}
use Rattle.fractions.proofs.RatioLaws.{over_proper, whole_proper, ⊝-proper, ⊗-proper}
use Rattle.fractions.proofs.OrderLaws.{◌∙≼◌, ⊝-≼}
use Rattle.fractions.proofs.EqualLaws.{⊝-⊕}
use Rattle.factors.specs.Basis.{Basis, Fair}
use Rattle.factors.specs.Factors.{S, monthly_less, monthly_less*, A, A*, pension, pension*}
use Rattle.factors.proofs.Distance.{Halves, halves_more, halves_less}
use Rattle.factors.proofs.Life.{A*_proper, A_least, A*_least, A_most, A*_most, A_halves}

-- ---- 11/24
monthly_proper : Proper monthly_less*
monthly_proper = ⊗-proper (over_proper _ (omega arith)) (whole_proper S)

monthly_halves : Halves 1 monthly_less monthly_less*
unfolding ◌over◌ whole ◌⊗◌
monthly_halves = omega arith

monthly_below_one : monthly_less* ≼ whole S
unfolding ◌over◌ whole ◌⊗◌
monthly_below_one = omega arith

-- what holds of an annuity paid either way, and of two that are paid in the same way
each_way : {X : Type 0} (P : X → Type 0) (by_month : Bool) {x y : X} → P x → P y → P (cond by_month x y)
each_way P true h g = h
each_way P false h g = g

both_ways : {X Y : Type 0} (P : X → Y → Type 0) (by_month : Bool) {x y : X} {x* y* : Y} → P x x* → P y y* → P (cond by_month x y) (cond by_month x* y*)
both_ways P true h g = h
both_ways P false h g = g

module _ (b : Basis) where
  open b use {r, pay}

  monthly_in_it : monthly_less* ≼ A* b r
  monthly_in_it = monthly_below_one ∙≼ A*_least b r

  not_monthly : pay ≡ 1 → eqb pay 12 ≡ false
  not_monthly h = ne_eqb pay 12 (λ e. omega arith)

  -- ---- rule 8.5
  pub pension_yearly : pay ≡ 1 → pension b ≡ A b r
  unfolding pension
  pension_yearly h = simp (not_monthly h)

  pub pension*_yearly : pay ≡ 1 → pension* b ≡ A* b r
  unfolding pension*
  pension*_yearly h = simp (not_monthly h)

  pub pension_monthly : pay ≡ 12 → pension b + 458333333 ≡ A b r
  unfolding pension
  pension_monthly h = simp (eq-eqb pay 12 h) (omega (arith, A_least b r))

  pub pension*_monthly : pay ≡ 12 → pension* b ⊕ 11 over 24 ⊗ whole S ≈ A* b r
  unfolding pension*
  pension*_monthly h = simp (eq-eqb pay 12 h) (⊝-⊕ monthly_in_it)

  -- ---- sizes: it stays above 0
  pub pension_least : 541666667 ≤ pension b
  unfolding pension
  pension_least =
      each_way (λ f. 541666667 ≤ f) (eqb pay 12) (omega (arith, A_least b r)) (omega (arith, A_least b r))

  pub pension*_proper : Proper (pension* b)
  unfolding pension*
  pension*_proper = each_way Proper (eqb pay 12) (⊝-proper (A*_proper b r) monthly_proper) (A*_proper b r)

  module _ (fair : Fair b) (h : r ≤ 120) where
    pub pension_most : pension b ≤ (121 - r) * S
    unfolding pension
    pension_most =
        each_way (λ f. f ≤ (121 - r) * S) (eqb pay 12) (omega (arith, A_most b fair r h)) (A_most b fair r h)

    pub pension*_most : pension* b ≼ whole ((121 - r) * S)
    unfolding pension*
    pension*_most =
        each_way (λ f. f ≼ whole ((121 - r) * S)) (eqb pay 12)
        (⊝-≼ (A*_proper b r) monthly_proper ∙≼ A*_most b fair r h)
        (A*_most b fair r h)

    -- ---- accuracy: A(r) has a half to spare, and 458333333 lies a third off
    pub pension_halves : Halves (121 - r) (pension b) (pension* b)
    unfolding pension pension*
    pension_halves =
        both_ways (Halves (121 - r)) (eqb pay 12)
        (halves_more (121 - r) (omega arith) (halves_less (A_halves b fair r) monthly_halves (omega (arith, A_least b r)) monthly_in_it))
        (halves_more (121 - r) (omega arith) (A_halves b fair r))
