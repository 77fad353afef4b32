-- The factors of RULES section 8, in billionths, each rounded and, by rule 10.1, exact, side by side.
-- The rules' own equations, A(120) = S and so on, are the lemmas of proofs/Equations.antt, and for where G begins those of
-- proofs/PensionLaws.antt.
use Rattle.std.specs.Prelude.{◌≡◌, refl, true, cond, [], ◌∷◌, ℕ, ◌+◌, ◌-◌, ◌*◌, eqb}
use Rattle.rounding.specs.Nearest.{nearest}
use Rattle.fractions.specs.Ratio.{Ratio, ◌over◌, whole, ◌⊕◌, ◌⊝◌, ◌⊗◌}
use Rattle.rates.specs.ByHand.{◌is◌, all_are}
use Rattle.factors.specs.Recursion.{carried}
use Rattle.factors.specs.Basis.{Basis, certain}

-- rule 8.1: one, in billionths
abbrev pub S : ℕ
S = 1000000000

-- rule 8.5, 11/24, which payment by the month takes off: as it is taken, in whole billionths, and exact
abbrev pub monthly_less : ℕ
monthly_less = 458333333

abbrev pub monthly_less* : Ratio
monthly_less* = 11 over 24 ⊗ whole S

module _ (b : Basis) where
  open b use {i, r, pay, P, W}

  -- rule 8.3, the year step from age k+1 to k: staying P(k), and a year's discount, in one rounding
  unfoldable pub step : ℕ → ℕ → ℕ
  step k f = nearest (f * P k) (100 * (10000 + i))

  unfoldable pub step* : ℕ → Ratio → Ratio
  step* k f = f ⊗ P k over (100 * (10000 + i))

  -- rule 8.4, the life annuity A: S at 120; at each age before it S and the step (3.17a)
  unfoldable pub A : ℕ → ℕ
  A k = carried (λ j f. S + step j f) S k (120 - k)

  unfoldable pub A* : ℕ → Ratio
  A* k = carried (λ j f. whole S ⊕ step* j f) (whole S) k (120 - k)

  -- rule 8.5, the annuity that a pension is worth at retirement, where G begins: A(r), and 11/24 less where it is paid by the month
  unfoldable pub pension : ℕ
  pension = cond (eqb pay 12) (A r - monthly_less) (A r)

  unfoldable pub pension* : Ratio
  pension* = cond (eqb pay 12) (A* r ⊝ monthly_less*) (A* r)

  -- rule 8.5, the deferred annuity G: a pension's annuity at r, and below r the step alone
  unfoldable pub G : ℕ → ℕ
  G k = carried step pension k (r - k)

  unfoldable pub G* : ℕ → Ratio
  G* k = carried step* pension* k (r - k)

  -- rule 8.6, the working annuity T(k,e): nothing at e; at each age before it S and the step (3.22)
  unfoldable pub T : ℕ → ℕ → ℕ
  T k e = carried (λ j f. S + step j f) 0 k (e - k)

  unfoldable pub T* : ℕ → ℕ → Ratio
  T* k e = carried (λ j f. whole S ⊕ step* j f) (whole 0) k (e - k)

  -- rule 8.7, the pay annuity Z(k,e): as T, with W(k) × S in the place of S; W(k) times (3.23)
  unfoldable pub Z : ℕ → ℕ → ℕ
  Z k e = carried (λ j f. W j * S + step j f) 0 k (e - k)

  unfoldable pub Z* : ℕ → ℕ → Ratio
  Z* k e = carried (λ j f. whole (W j * S) ⊕ step* j f) (whole 0) k (e - k)

  -- rule 10.5, staying and discount from k to j: the exact steps of the ages between, and 1 where there are none
  unfoldable pub v : ℕ → ℕ → Ratio
  v k j = carried step* (whole 1) k (j - k)

-- rule 8.8, the certain annuity C: T over m years in which nobody leaves
unfoldable pub C : ℕ → ℕ → ℕ
C i m = T (certain i) 0 m

unfoldable pub C* : ℕ → ℕ → Ratio
C* i m = T* (certain i) 0 m

-- ---- rules 8.5 and 10.1, worked where nobody dies before 120, at no interest: at 118 there are three payments to come. They stand here, so
-- that a wrong definition is refused by them: 11/24 comes off once, and off the exact fraction it is 11/24 itself that comes
abbrev three_payments : ℕ → Basis
three_payments pay = record { i = 0; r = 118; pay = pay; P = λ k. 1000000; W = λ k. 1000 }

abbrev exact_three : Ratio
exact_three = pension* (three_payments 12)

pub pensions_are : all_are
    ((pension (three_payments 1) is 3000000000)
    ∷ (pension (three_payments 12) is 2541666667)
    ∷ (24 * exact_three.upper is 61 * S * exact_three.lower)
    ∷ [])
    ≡ true
unfolding ◌over◌ whole ◌⊕◌ ◌⊝◌ ◌⊗◌ carried nearest step step* A A* pension pension*
pensions_are = refl
