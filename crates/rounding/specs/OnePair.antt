-- Rule 6.4: one division gives the quotient and the remainder, and every rounded quotient is made from this pair.
-- How often the compiled code divides no statement can say: tests/divisions.py counts it.
use Rattle.std.specs.Prelude.{◌≡◌, ℕ, ◌*◌, ◌<◌, pos, ◌*ℤ◌}
use Rattle.rounding.specs.declared.Signed.{Signed}
use Rattle.division.specs.declared.Division.{Division}
use Rattle.division.specs.declared.words.Wide.{Wide}
use Rattle.division.specs.Words.{value}
use Rattle.division.specs.Division.{DivisionOf}
use Rattle.rounding.specs.Nearest.{nearest, nearest_ℤ, nearest_of}
use Rattle.rounding.specs.Signed.{integer_of, signed}

-- rule 6.4, r is made from one pair: there is a pair that divides n by d, there is no other, and the rounding rule makes r from it
pub record FromOnePair (n d r : ℕ) : Type 0 where
  pub pair : Division
  pub divides : DivisionOf n d pair
  pub only : (s : Division) → DivisionOf n d s → s ≡ pair
  pub made : r ≡ nearest_of pair d

-- the same of a signed a times b, by rule 6.2: the size of r is made from the pair of a's size times b, and r has the sign of a
pub record SignedFromOnePair (a : Signed) (b d : ℕ) (r : Signed) : Type 0 where
  pub size : FromOnePair (a.size * b) d r.size
  pub sign : integer_of r ≡ integer_of (record { negative = a.negative; size = r.size })

-- every rounded quotient of this crate: whatever r a rounding's contract allows, as it stands in src/lib.rt, is made from one pair of what it divides
pub record RoundedFromOnePair : Type 0 where
  pub div_nearest : (n d r : ℕ) → 0 < d → r ≡ nearest n d → FromOnePair n d r
  pub wide_div_nearest : (w : Wide) (d r : ℕ) → 0 < d → r ≡ nearest (value w) d → FromOnePair (value w) d r
  pub mul_div_nearest : (a b d r : ℕ) → 0 < d → r ≡ nearest (a * b) d → FromOnePair (a * b) d r
  pub mul_mul_div_nearest : (a b c d r : ℕ) → 0 < d → r ≡ nearest (a * b * c) d → FromOnePair (a * b * c) d r
  pub signed_mul_div_nearest : (a : Signed) (b d : ℕ) (r : Signed) → 0 < d → r ≡ signed (nearest_ℤ (integer_of a *ℤ pos b) d) → SignedFromOnePair a b d r
