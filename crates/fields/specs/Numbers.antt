-- Whole numbers and amounts. Rule 1.6: each value takes all of its bytes.
use Rattle.std.specs.Prelude.{ℕ, ◌+◌, ◌-◌, ◌*◌, List, [], ◌∷◌, Bool, true, cond, not, ◌&&◌, length, get_or, leb, ltb, eqb}
use Rattle.fields.specs.Split.{has_of, upto_of, past_of}

-- what a text that should be a number is
pub data Number : Type 0 where
  value : ℕ → Number
  malformed : Number

-- a decimal digit
abbrev pub is_digit : ℕ → Bool
is_digit b = leb 48 b && leb b 57

abbrev pub all_digits : List ℕ → Bool
all_digits [] = true
all_digits (b ∷ s) = is_digit b && all_digits s

-- the number that the digits s write, after digits that wrote n
abbrev pub number : ℕ → List ℕ → ℕ
number n [] = n
number n (b ∷ s) = number (n * 10 + (b - 48)) s

-- all digits: their number
unfoldable pub digits_of : List ℕ → Number
digits_of s = cond (all_digits s) (value (number 0 s)) malformed

-- rule 1.3, a whole number: 1 to 12 digits, and no 0 before others
abbrev pub whole_form : List ℕ → Bool
whole_form s = leb 1 (length s) && leb (length s) 12 && not (ltb 1 (length s) && eqb (get_or s 0 0) 48)

unfoldable pub whole_of : List ℕ → Number
whole_of s = cond (whole_form s) (digits_of s) malformed

-- rule 1.4: dollars and hundredths, in cents
abbrev pub in_cents : Number → Number → Number
in_cents (value d) (value c) = value (d * 100 + c)
in_cents (value d) malformed = malformed
in_cents malformed y = malformed

-- rule 1.4, an amount: dollars as a whole number, a point, two digits
unfoldable pub amount_of : List ℕ → Number
amount_of s =
    cond (has_of 46 s && eqb (length (past_of 46 s)) 2) (in_cents (whole_of (upto_of 46 s)) (digits_of (past_of 46 s))) malformed
