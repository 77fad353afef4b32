-- The laws of `nearest` that callers use: within a half either way, exact where d divides n, monotone, and what follows.
-- They don't say where a half goes: up, down or to the even neighbour, they hold alike.
use mathlib.Core.Path.{◌≡◌, refl, sym, ap}
use Prim.Native.Nat.{ℕ, zero, suc, ◌+◌, ◌*◌, ◌≤◌, ◌<◌}
use native.Mathlib.Nat.{mul-one, mul-le-mul_left, mul-le-mul_right, le_of_mul-le-mul_right, eq_of_mul-eq-mul_right}
use native.Mathlib.Omega.{arith}
use lib.IntN.{pos, neg_ℤ}
use Rattle.rounding.specs.Nearest.{nearest, nearest_ℤ}
use Rattle.rounding.specs.HalfEven.{Rounded}
use Rattle.rounding.proofs.HalfEven.{rounded, rounded_mono, rounded_only}

-- the answer times d is above n by half of d at most
pub nearest_below : (n d : ℕ) → 2 * (nearest n d * d) ≤ 2 * n + d
nearest_below n zero = omega arith
nearest_below n (suc d) = (rounded n (suc d) (omega arith)).above

-- and below n by half of d at most
pub nearest_above : (n d : ℕ) → 0 < d → 2 * n ≤ 2 * (nearest n d * d) + d
nearest_above n d h = (rounded n d h).below

-- where d divides n nothing is rounded
pub nearest_exact : (q d : ℕ) → 0 < d → nearest (q * d) d ≡ q
nearest_exact q d h = sym (rounded_only (q * d) d q h (omega arith))

-- a larger number is not rounded to a smaller one
pub nearest_mono : (m n d : ℕ) → 0 < d → m ≤ n → nearest m d ≤ nearest n d
nearest_mono m n d h le = rounded_mono m n d (nearest m d) (nearest n d) h le (rounded m d h) (rounded n d h)

-- a product with at most one is rounded to no more than it was
pub nearest_shrinks : (f p d : ℕ) → 0 < d → p ≤ d → nearest (f * p) d ≤ f
nearest_shrinks f p d h le = omega (arith, nearest_mono (f * p) (f * d) d h (mul-le-mul_left f le), nearest_exact f d h)

-- and no number to more than itself
pub nearest_le : (n d : ℕ) → 0 < d → nearest n d ≤ n
nearest_le n d h = omega (arith, nearest_shrinks n 1 d h h, ap (λ (x : ℕ). nearest x d) (mul-one n))

-- a remainder raises a quotient by one at most
pub nearest_quotient : (q r d : ℕ) → r < d → nearest (q * d + r) d ≤ q + 1
nearest_quotient q r d h =
    omega (arith, nearest_mono (q * d + r) ((q + 1) * d) d (omega arith) (omega arith), nearest_exact (q + 1) d (omega arith))

-- equal fractions are rounded alike
pub nearest_cross : (n d m e : ℕ) → 0 < d → 0 < e → n * e ≡ m * d → nearest n d ≡ nearest m e
nearest_cross n d m e hd he cross =
    let q : ℕ = nearest m e in
    let is : Rounded m e q = rounded m e he in
    sym (rounded_only n d q hd (record {
      above = le_of_mul-le-mul_right {m = 2 * (q * d)} {n = 2 * n + d} {k = e} (omega (arith, mul-le-mul_right d is.above)) he;
      below = le_of_mul-le-mul_right {m = 2 * n} {n = 2 * (q * d) + d} {k = e} (omega (arith, mul-le-mul_right d is.below)) he;
      half_above = λ half. is.half_above (eq_of_mul-eq-mul_right d hd (2 * (q * e)) (2 * m + e) (omega (arith, ap (λ (x : ℕ). x * e) half)));
      half_below = λ half. is.half_below (eq_of_mul-eq-mul_right d hd (2 * m) (2 * (q * e) + e) (omega (arith, ap (λ (x : ℕ). x * e) half)));
    }))

-- rule 6.2: below 0 the size is rounded
pub nearest_negative : (n d : ℕ) → 0 < d → nearest_ℤ (neg_ℤ (pos n)) d ≡ neg_ℤ (pos (nearest n d))
unfolding nearest_ℤ
nearest_negative zero d h = let none : nearest zero d ≡ zero = omega (arith, nearest_le zero d h) in rw none
nearest_negative (suc n) d h = refl
