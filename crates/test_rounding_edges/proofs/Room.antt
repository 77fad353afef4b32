-- What fits a word, and what fits two.
use mathlib.Core.Path.{◌≡◌, ap}
use Prim.Native.Nat.{ℕ, ◌+◌, ◌*◌, ◌^◌, ◌<◌}
use native.Mathlib.Nat.{mul-le-mul_right, lt_of_mul-lt-mul_right}
use native.Mathlib.Omega.{arith}
use Rattle.division.specs.declared.words.Wide.{Wide}
use Rattle.rounding.specs.Nearest.{nearest}
use Rattle.division.specs.Words.{value}
use Rattle.rounding.proofs.NearestLaws.{nearest_below}

-- a remainder below half the divisor does not raise a quotient
pub not_raised : (q r d : ℕ) → r + r < d → nearest (q * d + r) d < q + 1
not_raised q r d h =
    lt_of_mul-lt-mul_right d {m = nearest (q * d + r) d} {n = q + 1} (omega (arith, nearest_below (q * d + r) d))

-- two words times c, for words of any size w: the upper word's product u is one word, and has room for what the lower word's product carries
carried : (w high low c u lh ll : ℕ) → 0 * w + u ≡ high * c → lh * w + ll ≡ low * c → u + lh < w → ll < w → (high * w + low) * c < w * w
carried w high low c u lh ll e f room less =
    omega (arith, ap (λ (x : ℕ). x * w) e, mul-le-mul_right {m = u + lh + 1} {n = w} w (omega arith))

pub two_words : (w u l : Wide) (c : ℕ) → value u ≡ w.high * c → value l ≡ w.low * c → u.high ≡ 0 → u.low + l.high < 2 ^ 64 → l.low < 2 ^ 64 → value w * c < 2 ^ 128
unfolding value
two_words w u l c e f none = carried (2 ^ 64) w.high w.low c u.low l.high l.low (rw none at e) f
