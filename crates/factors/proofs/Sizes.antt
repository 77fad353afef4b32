-- How large G, T, Z, v and C are, rounded and exact: at most so many payments, and no less for a later end. Every exact lower is above 0.
-- A has a file of its own, and so has the annuity of a pension.
use Prim.Native.Nat.{ℕ, ◌-◌, ◌*◌, ◌≤◌, ◌<◌}
use native.Mathlib.Nat.{le_refl}
use native.Mathlib.Omega.{arith}
use Rattle.fractions.specs.Ratio.{whole, Proper, Positive, ◌≼◌}
use Rattle.fractions.proofs.RatioLaws.{whole_proper}
use Rattle.fractions.proofs.OrderLaws.{◌∙≼◌}
use Rattle.factors.specs.Basis.{Basis, Fair, certain}
use Rattle.factors.specs.Factors.{S, pension, pension*, G, G*, T, T*, Z, Z*, v, C, C*}
use Rattle.factors.proofs.Bases.{certain_fair}
use Rattle.factors.proofs.PensionLaws.{pension*_proper, pension_most, pension*_most}
use Rattle.factors.proofs.Annuities.{deferred_proper, annuity_proper, annuity_least, annuity_positive, annuity_most, deferred_most, deferred*_most, annuity_longer, annuity*_longer}

module _ (b : Basis) where
  -- ---- every exact lower is above 0
  pub G*_proper : (k : ℕ) → Proper (G* b k)
  unfolding G*
  G*_proper k = deferred_proper b (pension*_proper b) k (b.r - k)

  pub T*_proper : (k e : ℕ) → Proper (T* b k e)
  unfolding T*
  T*_proper k e = annuity_proper b (λ j. S) (whole_proper 0) k (e - k)

  pub Z*_proper : (k e : ℕ) → Proper (Z* b k e)
  unfolding Z*
  Z*_proper k e = annuity_proper b (λ j. b.W j * S) (whole_proper 0) k (e - k)

  pub v_proper : (k j : ℕ) → Proper (v b k j)
  unfolding v
  v_proper k j = deferred_proper b (whole_proper 1) k (j - k)

  -- ---- a year's payment at least, so that T and Z may be divided by
  pub T_least : (k e : ℕ) → k < e → S ≤ T b k e
  unfolding T
  T_least k e h = annuity_least b (λ j. S) 0 k e h

  pub Z_least : (k e : ℕ) → k < e → b.W k * S ≤ Z b k e
  unfolding Z
  Z_least k e h = annuity_least b (λ j. b.W j * S) 0 k e h

  pub T*_positive : (k e : ℕ) → k < e → Positive (T* b k e)
  unfolding T*
  T*_positive k e h = annuity_positive b (λ j. S) (whole_proper 0) k e h (omega arith)

  pub Z*_positive : (k e : ℕ) → k < e → 0 < b.W k → Positive (Z* b k e)
  unfolding Z*
  Z*_positive k e h some = annuity_positive b (λ j. b.W j * S) (whole_proper 0) k e h (omega arith)

  -- ---- a later end gives no less
  pub T*_longer : (k x r : ℕ) → k ≤ x → x ≤ r → T* b k x ≼ T* b k r
  unfolding T*
  T*_longer = annuity*_longer b (λ j. S)

  pub Z*_longer : (k x r : ℕ) → k ≤ x → x ≤ r → Z* b k x ≼ Z* b k r
  unfolding Z*
  Z*_longer = annuity*_longer b (λ j. b.W j * S)

  module _ (fair : Fair b) where
    pub T_longer : (k x r : ℕ) → k ≤ x → x ≤ r → T b k x ≤ T b k r
    unfolding T
    T_longer = annuity_longer b fair (λ j. S)

    pub Z_longer : (k x r : ℕ) → k ≤ x → x ≤ r → Z b k x ≤ Z b k r
    unfolding Z
    Z_longer = annuity_longer b fair (λ j. b.W j * S)

    -- ---- at most so many payments
    pub G_most : (k : ℕ) → b.r ≤ 120 → G b k ≤ (121 - b.r) * S
    unfolding G
    G_most k h = omega (arith, deferred_most b fair (pension b) k (b.r - k), pension_most b fair h)

    pub G*_most : (k : ℕ) → b.r ≤ 120 → G* b k ≼ whole ((121 - b.r) * S)
    unfolding G*
    G*_most k h = deferred*_most b fair (pension* b) k (b.r - k) (pension*_proper b) ∙≼ pension*_most b fair h

    pub T_most : (k e : ℕ) → T b k e ≤ (e - k) * S
    unfolding T
    T_most k e = omega (arith, annuity_most b fair (λ j. S) S 0 0 k (e - k) (omega arith) (λ j from to. le_refl S))

-- ---- C
pub C_most : (i m : ℕ) → C i m ≤ m * S
unfolding C
C_most i m = omega (arith, T_most (certain i) (certain_fair i) 0 m)

pub C*_positive : (i m : ℕ) → 0 < m → Positive (C* i m)
unfolding C*
C*_positive i m h = T*_positive (certain i) 0 m h

pub C*_proper : (i m : ℕ) → Proper (C* i m)
unfolding C*
C*_proper i m = T*_proper (certain i) 0 m

pub C_least : (i m : ℕ) → 0 < m → S ≤ C i m
unfolding C
C_least i m h = T_least (certain i) 0 m h
