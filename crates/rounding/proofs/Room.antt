-- What a rounded quotient that fits a word says of the number divided, for words of any size w.
use Prim.Native.Nat.{ℕ, ◌+◌, ◌*◌, ◌<◌}
use native.Mathlib.Nat.{mul-le-mul_right, lt_of_mul-lt-mul_right}
use native.Mathlib.Omega.{arith}
use Rattle.rounding.specs.Nearest.{nearest}
use Rattle.rounding.proofs.NearestLaws.{nearest_above}

-- it is below w times the divisor
room : (w n d : ℕ) → 0 < d → nearest n d < w → n < w * d
room w n d hd h = omega (arith, nearest_above n d hd, mul-le-mul_right {m = nearest n d + 1} {n = w} d (omega arith))

-- so its high word is below the divisor
pub high_less : (w high low d : ℕ) → 0 < d → nearest (high * w + low) d < w → high < d
high_less w high low d hd h = lt_of_mul-lt-mul_right w {m = high} {n = d} (omega (arith, room w (high * w + low) d hd h))

-- and it fits two words
pub two_words : (w n d : ℕ) → 0 < d → d < w → nearest n d < w → n < w * w
two_words w n d hd hw h = omega (arith, room w n d hd h, mul-le-mul_right {m = d} {n = w} w (omega arith))
