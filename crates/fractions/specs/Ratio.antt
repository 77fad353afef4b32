-- Rules 10.2 and 10.3, fractions that are not below 0: two whole numbers, the lower above 0, compared by cross products.
use Rattle.std.specs.Prelude.{◌≡◌, ℕ, ◌+◌, ◌-◌, ◌*◌, ◌≤◌, ◌<◌}

-- upper / lower
pub record Ratio : Type 0 where
  pub upper : ℕ
  pub lower : ℕ

infix 8 ◌over◌
infixl 7 ◌⊗◌ ◌⊘◌
infixl 6 ◌⊕◌ ◌⊝◌
infix 4 ◌≈◌ ◌≼◌
-- n / d
unfoldable pub ◌over◌ : ℕ → ℕ → Ratio
n over d = record { upper = n; lower = d }

-- n / 1
unfoldable pub whole : ℕ → Ratio
whole n = n over 1

-- a + b
unfoldable pub ◌⊕◌ : Ratio → Ratio → Ratio
a ⊕ b = record { upper = a.upper * b.lower + b.upper * a.lower; lower = a.lower * b.lower }

-- a − b, for a `b` that is `a` at most; the fractions of any sign have their own
unfoldable pub ◌⊝◌ : Ratio → Ratio → Ratio
a ⊝ b = record { upper = a.upper * b.lower - b.upper * a.lower; lower = a.lower * b.lower }

-- a × b
unfoldable pub ◌⊗◌ : Ratio → Ratio → Ratio
a ⊗ b = record { upper = a.upper * b.upper; lower = a.lower * b.lower }

-- 1 / a, for an `a` above 0
unfoldable pub inverse : Ratio → Ratio
inverse a = record { upper = a.lower; lower = a.upper }

-- a / b: a product, so that the laws of products sort it too
abbrev pub ◌⊘◌ : Ratio → Ratio → Ratio
a ⊘ b = a ⊗ inverse b

-- rule 10.2, `a` is a fraction: its lower part is above 0
pub record Proper (a : Ratio) : Type 0 where
  pub above : 0 < a.lower

-- `a` may be divided by: its upper part is above 0
pub record Positive (a : Ratio) : Type 0 where
  pub above : 0 < a.upper

-- rule 10.3, a = b: both are fractions, and the cross products are equal
pub record ◌≈◌ (a b : Ratio) : Type 0 where
  pub left : Proper a
  pub right : Proper b
  pub cross : a.upper * b.lower ≡ b.upper * a.lower

-- rule 10.3, a ≤ b: both are fractions, and the cross products are in this order
pub record ◌≼◌ (a b : Ratio) : Type 0 where
  pub left : Proper a
  pub right : Proper b
  pub cross : a.upper * b.lower ≤ b.upper * a.lower
