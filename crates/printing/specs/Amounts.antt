-- Whole numbers and amounts as they are printed: rule 13.4, as a case file has them.
use Rattle.std.specs.Prelude.{cond, List, [], ◌∷◌, ◌++◌, ℕ, zero, suc, ◌+◌, ◌/◌, ◌%◌, ltb, ℤ, pos, negsuc}

-- the last w digits of n
unfoldable pub digits : (w n : ℕ) → List ℕ
digits zero n = []
digits (suc w) n = digits w (n / 10) ++ ((48 + n % 10) ∷ [])

-- how many digits n has, when it is known to have no more than `most` and one
abbrev pub width_up_to : (most n : ℕ) → ℕ
width_up_to zero n = 1
width_up_to (suc most) n = cond (ltb n 10) 1 (suc (width_up_to most (n / 10)))

-- how many digits n has: at least one
unfoldable pub width : ℕ → ℕ
width n = width_up_to n n

-- rule 1.3: a whole number
unfoldable pub whole_number : ℕ → List ℕ
whole_number n = digits (width n) n

-- rule 1.4, cents as an amount in dollars: a whole number, a point, two digits
unfoldable pub amount : ℕ → List ℕ
amount cents = whole_number (cents / 100) ++ 46 ∷ digits 2 cents

-- rule 13.4, a signed amount: below 0 the digits come directly after byte 45
unfoldable pub signed_amount : ℤ → List ℕ
signed_amount (pos n) = amount n
signed_amount (negsuc n) = 45 ∷ amount (suc n)
