-- The three kinds of line that are printed, rules 13.2 and 13.3. Byte 10 ends each (rule 13.1).
use Rattle.std.specs.Prelude.{List, [], ◌∷◌, ◌++◌, ℕ, ℤ}
use Rattle.printing.specs.Amounts.{whole_number, amount, signed_amount}

-- amounts, each after a comma
unfoldable pub fields : List ℕ → List ℕ
fields [] = []
fields (cents ∷ more) = 44 ∷ (amount cents ++ fields more)

-- a key, a whole number and amounts
unfoldable pub amounts_line : (key : List ℕ) → ℕ → List ℕ → List ℕ
amounts_line key n amounts = key ++ whole_number n ++ fields amounts ++ (10 ∷ [])

-- a key and a signed amount
unfoldable pub signed_line : (key : List ℕ) → ℤ → List ℕ
signed_line key z = key ++ signed_amount z ++ (10 ∷ [])

-- a key and two whole numbers, with a comma between
unfoldable pub pair_line : (key : List ℕ) → ℕ → ℕ → List ℕ
pair_line key a b = key ++ whole_number a ++ (44 ∷ []) ++ whole_number b ++ (10 ∷ [])
