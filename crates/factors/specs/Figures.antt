-- The rates and the factors among the figures worked by hand (RULES section 14), computed from the definitions. A crate above adds its own figures to the list.
use Rattle.std.specs.Prelude.{◌≡◌, refl, true, List, [], ◌∷◌, ◌++◌, ℕ, replicate}
use Rattle.rounding.specs.Nearest.{nearest}
use Rattle.rates.specs.ByHand.{Figure, ◌is◌, all_are}
use Rattle.factors.specs.Recursion.{carried}
use Rattle.rates.specs.Rates.{able, serves, leaves, stays, crowded, rates}
use Rattle.rates.specs.Table.{staying}
use Rattle.factors.specs.Basis.{Basis, basis, payable}
use Rattle.factors.specs.Factors.{step, A, pension, G, T}

-- the short table of rule 14.1 but for the row of age 64: nobody dies before that, and all do at 65; the weight is 1000, and 1100 from
-- 65 on
abbrev pub short_with : List ℕ → List (List ℕ)
short_with row = replicate 49 (0 ∷ 0 ∷ 0 ∷ 1000 ∷ []) ++ (row ∷ replicate 56 (1000000 ∷ 0 ∷ 0 ∷ 1100 ∷ []))

-- rule 14.1, the short table: at 64 nobody dies, and the weight is 1100
unfoldable pub short : List (List ℕ)
short = short_with (0 ∷ 0 ∷ 0 ∷ 1100 ∷ [])

-- rule 14.2, the interest and the retirement age of the short case
abbrev pub short_basis : Basis
short_basis = basis short 65 1000

-- rule 14.19: the short table with the crowded row at 64
abbrev crowded_basis : (r : ℕ) → Basis
crowded_basis r = basis (short_with crowded) r 1000

-- after the rates: rule 14.19, the annuity at 64 before retirement and at it; rule 14.3, G at 64 and 63, and T(63,65); rule 14.22, A
-- and G of pensions paid by the month
unfoldable pub factors : List Figure
factors =
    rates
    ++ (G (crowded_basis 65) 64 is 267271818)
    ∷ (G (crowded_basis 64) 64 is 1545454545)
    ∷ (G short_basis 64 is 909090909)
    ∷ (G short_basis 63 is 826446281)
    ∷ (T short_basis 63 65 is 1909090909)
    ∷ (A (payable 12 short_basis) 65 is 1000000000)
    ∷ (G (payable 12 short_basis) 65 is 541666667)
    ∷ (G (payable 12 short_basis) 64 is 492424243)
    ∷ (G (payable 12 short_basis) 63 is 447658403)
    ∷ []

pub factors_are : all_are factors ≡ true
unfolding factors rates short able serves leaves stays staying nearest carried step A pension G T
factors_are = refl
