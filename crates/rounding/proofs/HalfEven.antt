-- What rule 6.1 makes of a quotient and a remainder, and that this is its sentence. Of the law files this one knows where a half goes.
use mathlib.Core.Path.{◌≡◌, refl, sym, ap, ◌∙◌}
use mathlib.Core.Bool.{Bool, true, false}
use Prim.Native.Nat.{ℕ, ◌+◌, ◌*◌, ◌/◌, ◌%◌, ◌≤◌, ◌<◌}
use native.Mathlib.Nat.{mul-le-mul_right, le_of_mul-le-mul_right}
use native.Mathlib.Omega.{arith}
use borrow.Author.Tests.{ltb-true, ltb-false, leb-true, leb-false, lt-ltb, le-ltb}
use lib.Dec.{leb, ltb}
use Rattle.division.specs.declared.Division.{Division}
use Rattle.division.specs.Division.{DivisionOf}
use Rattle.rounding.specs.Nearest.{nearest, nearest_of, even_of}
use Rattle.rounding.specs.HalfEven.{Rounded, HalfEven}
use Rattle.division.proofs.Pairs.{pair, divides, same_pair}

-- ---- from a pair
-- a number has one pair, so the rule makes from any that divides n by d what it makes from n
pub of_pair : (n d : ℕ) (s : Division) → DivisionOf n d s → nearest n d ≡ nearest_of s d
unfolding nearest
of_pair n d s h = ap (λ (t : Division). nearest_of t d) (same_pair (pair n d) s (divides n d (omega (arith, h.less))) h)

module _ (q r d : ℕ) (h : r < d) where
  whole : nearest (q * d + r) d ≡ nearest_of (record { quotient = q; remainder = r }) d
  whole = of_pair (q * d + r) d (record { quotient = q; remainder = r }) (record { same = refl; less = h })

  -- a remainder of less than half the divisor leaves the quotient
  less_than_half : r + r < d → nearest (q * d + r) d ≡ q
  less_than_half less = whole ∙ simp (lt-ltb (2 * r) d (omega arith))

  -- one of more than half raises it
  more_than_half : d < r + r → nearest (q * d + r) d ≡ q + 1
  more_than_half more = whole ∙ simp (le-ltb (2 * r) d (omega arith), lt-ltb d (2 * r) (omega arith))

  -- and with one of just half the even one is taken
  just_half : r + r ≡ d → nearest (q * d + r) d ≡ even_of q
  just_half half = whole ∙ simp (le-ltb (2 * r) d (omega arith), le-ltb d (2 * r) (omega arith))

-- ---- the sentence
record Even (q e : ℕ) : Type 0 where
  even : e % 2 ≡ 0
  low : q ≤ e
  high : e ≤ q + 1

even_of_lem : (q : ℕ) → Even q (even_of q)
even_of_lem q = omega arith

by_tests : (t u : Bool) (q r d : ℕ) → ltb (2 * r) d ≡ t → ltb d (2 * r) ≡ u → r < d → Rounded (q * d + r) d (nearest (q * d + r) d)
by_tests true u q r d e f h =
    let less = ltb-true (2 * r) d e in
    rw (less_than_half q r d h (omega arith)) (omega arith)
by_tests false true q r d e f h =
    let more = ltb-true d (2 * r) f in
    rw (more_than_half q r d h (omega arith)) (omega arith)
by_tests false false q r d e f h =
    let half : r + r ≡ d = omega (arith, ltb-false (2 * r) d e, ltb-false d (2 * r) f) in
    let is = even_of_lem q in
    let low = mul-le-mul_right d is.low in
    let high = mul-le-mul_right d is.high in
    rw (just_half q r d h half) (omega arith)

pub rounded : (n d : ℕ) → 0 < d → Rounded n d (nearest n d)
rounded n d h =
    let is = divides n d h in
    rw (← is.same) (by_tests (ltb (2 * (n % d)) d) (ltb d (2 * (n % d))) (n / d) (n % d) d refl refl is.less)

-- of a larger number no smaller one: two numbers a half away from the same place are neighbours, and not both even
in_order : (t : Bool) (m n d a b : ℕ) → leb a b ≡ t → 0 < d → m ≤ n → Rounded m d a → Rounded n d b → a ≤ b
in_order true m n d a b e h le ra rb = leb-true a b e
in_order false m n d a b e h le ra rb =
    let over : (b + 1) * d ≤ a * d = mul-le-mul_right d (omega (arith, leb-false a b e)) in
    let next : a ≤ b + 1 = le_of_mul-le-mul_right {m = a} {n = b + 1} {k = d} (omega (arith, ra.above, rb.below)) h in
    absurd (omega (arith, leb-false a b e, ra.half_above (omega (arith, ra.above, rb.below)), rb.half_below (omega (arith, ra.above, rb.below))))

pub rounded_mono : (m n d a b : ℕ) → 0 < d → m ≤ n → Rounded m d a → Rounded n d b → a ≤ b
rounded_mono m n d a b = in_order (leb a b) m n d a b refl

-- so it holds of one number
pub rounded_only : (n d q : ℕ) → 0 < d → Rounded n d q → q ≡ nearest n d
rounded_only n d q h r =
    omega (arith, rounded_mono n n d q (nearest n d) h (omega arith) r (rounded n d h), rounded_mono n n d (nearest n d) q h (omega arith) (rounded n d h) r)

pub half_even : HalfEven
half_even = record { is = rounded; only = rounded_only }

-- ---- as the code decides it
-- a remainder of more than half raises the quotient, and one of just half raises it where it is odd
pub raised : (q r d : ℕ) → r < d → d < r + r + q % 2 → nearest (q * d + r) d ≡ q + 1
raised q r d h more = sym (rounded_only (q * d + r) d (q + 1) (omega arith) (omega arith))

-- no other does
pub kept : (q r d : ℕ) → r < d → r + r + q % 2 ≤ d → nearest (q * d + r) d ≡ q
kept q r d h less = sym (rounded_only (q * d + r) d q (omega arith) (omega arith))
