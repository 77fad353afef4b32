-- A number has one text, as rule 13.4 prints it and as rules 1.3 and 1.4 read it. Proved in proofs/ReadBack.antt and proofs/OneText.antt.
use Rattle.std.specs.Prelude.{◌≡◌, List, ℕ, ◌<◌}
use Rattle.fields.specs.Numbers.{value, whole_of, amount_of}
use Rattle.printing.specs.Amounts.{whole_number, amount}

-- ---- what is printed is read back
-- a whole number of 12 digits at most
abbrev pub WholesReadBack : Type 0
WholesReadBack = (n : ℕ) → n < 1000000000000 → whole_of (whole_number n) ≡ value n

-- an amount of 999999999999.99 at most
abbrev pub AmountsReadBack : Type 0
AmountsReadBack = (cents : ℕ) → cents < 100000000000000 → amount_of (amount cents) ≡ value cents

-- ---- and no other bytes are read as it
abbrev pub WholesHaveOneText : Type 0
WholesHaveOneText = (s : List ℕ) (n : ℕ) → whole_of s ≡ value n → s ≡ whole_number n

abbrev pub AmountsHaveOneText : Type 0
AmountsHaveOneText = (s : List ℕ) (cents : ℕ) → amount_of s ≡ value cents → s ≡ amount cents

-- ---- nor is it ever read as another number, however large it is
abbrev pub WholesAreThemselves : Type 0
WholesAreThemselves = (n m : ℕ) → whole_of (whole_number n) ≡ value m → m ≡ n

abbrev pub AmountsAreThemselves : Type 0
AmountsAreThemselves = (cents other : ℕ) → amount_of (amount cents) ≡ value other → other ≡ cents
