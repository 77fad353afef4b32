-- Laws of digits, widths and amounts.
use mathlib.Core.Path.{◌≡◌, refl, ap}
use mathlib.Core.Bool.{Bool, true, false, cond, ◌&&◌}
use mathlib.Core.List.{[], ◌∷◌, ◌++◌, append_assoc}
use Prim.Native.Nat.{ℕ, zero, suc, ◌+◌, ◌/◌, ◌%◌, ◌^◌, ◌≤◌, ◌<◌}
use native.Mathlib.Omega.{arith}
use native.Mathlib.Nat.{pow-suc}
use lib.Dec.{ltb}
use borrow.Author.Tests.{lt-ltb, le-ltb}
use lib.ListN.{length, length-append}
use lib.IntN.{pos, neg_ℤ}
use Rattle.rounding.specs.declared.Signed.{Signed}
use Rattle.rounding.specs.Signed.{integer_of}
use Rattle.printing.specs.Amounts.{digits, width_up_to, width, whole_number, amount, signed_amount}

pub digits_length : (w n : ℕ) → length (digits w n) ≡ w
unfolding digits
digits_length zero n = refl
digits_length (suc w) n = simp (length-append, digits_length w (n / 10)) (omega arith)

-- any bound that is large enough gives the width
enough : (f g n : ℕ) → n ≤ f → n ≤ g → width_up_to f n ≡ width_up_to g n
enough zero zero n hf hg = refl
enough zero (suc g) n hf hg = simp (lt-ltb n 10 (omega arith))
enough (suc f) zero n hf hg = simp (lt-ltb n 10 (omega arith))
enough (suc f) (suc g) n hf hg =
    ap (λ w. cond (ltb n 10) 1 (suc w)) (enough f g (n / 10) (omega arith) (omega arith))

-- a number below 10 to the w has w digits at most
no_wider : (w f n : ℕ) → n < 10 ^ suc w → width_up_to f n ≤ suc w
no_wider w zero n h = omega arith
no_wider zero (suc f) n h = simp (lt-ltb n 10 (omega arith)) (omega arith)
no_wider (suc w) (suc f) n h =
    pick (ltb n 10) (no_wider w f (n / 10) (let tens = pow-suc 10 (suc w) in omega (arith, h, tens)))
  where
    pick : (t : Bool) → width_up_to f (n / 10) ≤ suc w → cond t 1 (suc (width_up_to f (n / 10))) ≤ suc (suc w)
    pick true e = omega arith
    pick false e = omega arith

pub whole_most : (w n : ℕ) → n < 10 ^ suc w → length (whole_number n) ≤ suc w
unfolding whole_number width
whole_most w n h = rw (digits_length (width_up_to n n) n) (no_wider w n n h)

-- an amount of so many digits before its point
pub amount_most : (w cents : ℕ) → cents / 100 < 10 ^ suc w → length (amount cents) ≤ w + 4
unfolding amount
amount_most w cents h = simp (length-append, digits_length 2 cents) (omega (arith, whole_most w (cents / 100) h))

pub width_one : (n : ℕ) → n < 10 → width n ≡ 1
unfolding width
width_one zero h = refl
width_one (suc n) h = simp (lt-ltb (suc n) 10 h)

pub width_more : (n : ℕ) → 10 ≤ n → width n ≡ suc (width (n / 10))
unfolding width
width_more zero h = absurd (omega arith)
width_more (suc n) h = simp (le-ltb (suc n) 10 h) (ap suc (enough n (suc n / 10) (suc n / 10) (omega arith) (omega arith)))

-- all digits but the last two, and then these
pub whole_one : (n : ℕ) → n < 10 → whole_number n ≡ (48 + n % 10) ∷ []
unfolding whole_number digits
whole_one n h = rw (width_one n h)

pub whole_two : (n : ℕ) → 10 ≤ n → n < 100 → whole_number n ≡ digits 2 n
unfolding whole_number
whole_two n h less = rw (width_more n h, width_one (n / 10) (omega arith))

pub whole_more : (n : ℕ) → 100 ≤ n → whole_number n ≡ whole_number (n / 100) ++ digits 2 n
unfolding whole_number digits
whole_more n h =
    let hundreds : n / 10 / 10 ≡ n / 100 = omega arith in
    rw (width_more n (omega arith), width_more (n / 10) (omega arith), hundreds) (append_assoc (digits (width (n / 100)) (n / 100)) _ _)

pub whole_four : (n : ℕ) → 10000 ≤ n → whole_number n ≡ whole_number (n / 10000) ++ digits 2 (n / 100) ++ digits 2 n
whole_four n h =
    let next : n / 100 / 100 ≡ n / 10000 = omega arith in
    rw (whole_more n (omega arith), whole_more (n / 100) (omega arith), next)

pub amount_parts : (cents : ℕ) → amount cents ≡ whole_number (cents / 100) ++ (46 ∷ []) ++ digits 2 cents
unfolding amount
amount_parts cents = simp append_assoc

-- what is negative has a sign, and nothing else has
pub signed_parts : (z : Signed) {t : Bool} → t ≡ (z.negative && ltb 0 z.size) → signed_amount (integer_of z) ≡ cond t (45 ∷ amount z.size) (amount z.size)
unfolding integer_of signed_amount
signed_parts z = pick z.negative z.size
  where
    pick : (s : Bool) (n : ℕ) {t : Bool} → t ≡ (s && ltb 0 n) → signed_amount (cond s (neg_ℤ (pos n)) (pos n)) ≡ cond t (45 ∷ amount n) (amount n)
    pick true zero e = rw e
    pick true (suc n) e = rw (e, lt-ltb 0 (suc n) (omega arith))
    pick false n e = rw e
