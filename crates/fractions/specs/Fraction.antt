-- Rules 10.2 and 10.3, fractions of any sign: an integer over a whole number above 0, compared by cross products.
use Rattle.std.specs.Prelude.{◌≡◌, ℕ, ◌*◌, ◌<◌, ℤ, pos, neg_ℤ, nat_abs, ◌*ℤ◌, ◌-ℤ◌}
use Rattle.fractions.specs.Ratio.{Ratio, ◌over◌, ◌≼◌}

-- upper / lower
pub record Fraction : Type 0 where
  pub upper : ℤ
  pub lower : ℕ

infixl 7 ◌⊙◌
infixl 6 ◌⊖◌
infix 4 ◌≐◌
-- a ratio as a fraction
unfoldable pub fraction : Ratio → Fraction
fraction a = record { upper = pos a.upper; lower = a.lower }

-- z / 1
unfoldable pub integer : ℤ → Fraction
integer z = record { upper = z; lower = 1 }

-- a − b
unfoldable pub ◌⊖◌ : Fraction → Fraction → Fraction
a ⊖ b =
    record {
      upper = a.upper *ℤ pos b.lower -ℤ b.upper *ℤ pos a.lower;
      lower = a.lower * b.lower;
    }

-- a × b, where b is not below 0
unfoldable pub ◌⊙◌ : Fraction → Ratio → Fraction
a ⊙ b = record { upper = a.upper *ℤ pos b.upper; lower = a.lower * b.lower }

-- − a
unfoldable pub opposite : Fraction → Fraction
opposite a = record { upper = neg_ℤ a.upper; lower = a.lower }

-- a without its sign
unfoldable pub size : Fraction → Ratio
size a = nat_abs a.upper over a.lower

-- rule 10.3, a = b: both lower parts are above 0, and the cross products are equal
pub record ◌≐◌ (a b : Fraction) : Type 0 where
  pub left : 0 < a.lower
  pub right : 0 < b.lower
  pub cross : a.upper *ℤ pos b.lower ≡ b.upper *ℤ pos a.lower

-- rule 10.3, a and b within a limit: they differ, either way, by the limit at most
pub record Apart (limit : Ratio) (a b : Fraction) : Type 0 where
  pub left : 0 < a.lower
  pub right : 0 < b.lower
  pub apart : size (a ⊖ b) ≼ limit
