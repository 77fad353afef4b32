-- The unfunded and its payment.
use mathlib.Core.Path.{◌≡◌, refl}
use mathlib.Core.Bool.{true, false}
use Prim.Native.Nat.{ℕ, zero, suc, ◌+◌, ◌-◌, ◌*◌, ◌^◌, ◌≤◌, ◌<◌}
use native.Mathlib.Omega.{arith}
use borrow.Author.Tests.{lt-ltb, le-ltb}
use lib.IntN.{ℤ, pos, negsuc, ◌-ℤ◌}
use Rattle.rounding.specs.Nearest.{nearest}
use Rattle.rounding.specs.Signed.{integer_of, signed}
use Rattle.rounding.proofs.NearestLaws.{nearest_shrinks}
use Rattle.factors.specs.Factors.{S, C}
use Rattle.factors.proofs.Sizes.{C_least}

pub overfunded : (l a : ℕ) → l < a → record { negative = true; size = a - l } ≡ signed (pos l -ℤ pos a)
unfolding signed
overfunded l zero h = absurd (omega arith)
overfunded l (suc a) h =
    let left : suc (suc a - suc l) ≡ suc a - l = omega arith in
    rw (lt-ltb l (suc a) h, ← left)

pub underfunded : (l a : ℕ) → a ≤ l → record { negative = false; size = l - a } ≡ signed (pos l -ℤ pos a)
unfolding signed
underfunded l zero h = let all : l + 0 ≡ l - 0 = omega arith in rw all
underfunded l (suc a) h = rw (le-ltb l (suc a) h)

-- an integer is its sign and its size
pub integer_signed : (z : ℤ) → integer_of (signed z) ≡ z
unfolding integer_of signed
integer_signed (pos n) = refl
integer_signed (negsuc n) = refl

-- C pays one at least, so that the payment is no larger than the unfunded
pub payment_fits : (size i m : ℕ) {certain : ℕ} → certain ≡ C i m → 1 ≤ m → size < 2 ^ 64 → (0 < certain) × (nearest (size * S) certain < 2 ^ 64)
payment_fits size i m {certain} is some word =
    let least : S ≤ certain = rw is (C_least i m some) in
    (omega arith, omega (arith, nearest_shrinks size S certain (omega arith) least))
