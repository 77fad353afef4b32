-- Worked cases: each is computed from the definitions, and its two parts are compared with the expected ones.
use mathlib.Core.Path.{◌≡◌, refl}
use mathlib.Core.Bool.{Bool, true, false, ◌&&◌}
use mathlib.Core.List.{List, [], ◌∷◌}
use Prim.Native.Nat.{ℕ}
use lib.Dec.{eqb}
use lib.IntN.{ℤ, pos, negsuc}
use Rattle.fractions.specs.Ratio.{◌over◌, whole, ◌⊕◌, ◌⊝◌, ◌⊗◌, inverse, ◌⊘◌}
use Rattle.fractions.specs.Fraction.{Fraction, fraction, integer, ◌⊖◌, ◌⊙◌, opposite, size}

infix 5 ◌is◌upon◌
data Case : Type 0 where
  ◌is◌upon◌ : Fraction → ℤ → ℕ → Case

abbrev same : ℤ → ℤ → Bool
same (pos m) (pos n) = eqb m n
same (pos m) (negsuc n) = false
same (negsuc m) (pos n) = false
same (negsuc m) (negsuc n) = eqb m n

abbrev all_are : List Case → Bool
all_are [] = true
all_are ((a is z upon d) ∷ cs) = same a.upper z && eqb a.lower d && all_are cs

-- `negsuc n` is −(n + 1)
worked : all_are
    ((fraction (1 over 2 ⊕ 1 over 3) is pos 5 upon 6)
    ∷ (fraction (1 over 2 ⊝ 1 over 3) is pos 1 upon 6)
    ∷ (fraction (2 over 3 ⊗ 3 over 4) is pos 6 upon 12)
    ∷ (fraction (whole 2 ⊘ 3 over 4) is pos 8 upon 3)
    ∷ (fraction (1 over 2) ⊖ fraction (1 over 3) is pos 1 upon 6)
    ∷ (fraction (1 over 3) ⊖ fraction (1 over 2) is negsuc 0 upon 6)
    ∷ (fraction (size (fraction (1 over 3) ⊖ fraction (1 over 2))) is pos 1 upon 6)
    ∷ (opposite (fraction (1 over 3) ⊖ fraction (1 over 2)) is pos 1 upon 6)
    ∷ (integer (pos 3) ⊙ 2 over 5 is pos 6 upon 5)
    ∷ (integer (negsuc 2) ⊙ 2 over 5 is negsuc 5 upon 5)
    ∷ [])
    ≡ true
unfolding ◌over◌ whole ◌⊕◌ ◌⊝◌ ◌⊗◌ inverse fraction integer ◌⊖◌ ◌⊙◌ opposite size
worked = refl
