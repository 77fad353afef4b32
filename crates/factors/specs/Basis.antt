-- What the factors rest on: the interest, the retirement age, how often a pension is paid, and staying and the weight of each age.
use Rattle.std.specs.Prelude.{List, ℕ, ◌≤◌}
use Rattle.rates.specs.Table.{weight, staying}

-- the interest i in basis points, the retirement age r, how many times a year a pension is paid, and the staying and the weight of each age
pub record Basis : Type 0 where
  pub i : ℕ
  pub r : ℕ
  pub pay : ℕ
  pub P : ℕ → ℕ
  pub W : ℕ → ℕ

-- of a million at an age no more than a million stay: true of every table, and all that the laws of the year step ask
pub record Fair (b : Basis) : Type 0 where
  pub stays : (k : ℕ) → b.P k ≤ 1000000

-- the basis that a table's rows give, with a pension that is paid by the year
abbrev pub basis : List (List ℕ) → ℕ → ℕ → Basis
basis rows r i = record { i = i; r = r; pay = 1; P = staying rows r; W = weight rows }

-- rule 2.10: a basis, but with a pension that is paid so many times a year
abbrev pub payable : ℕ → Basis → Basis
payable pay b = record { i = b.i; r = b.r; pay = pay; P = b.P; W = b.W }

-- rule 8.8, nobody leaves, whatever the age: the basis of payments that are certain
abbrev pub certain : ℕ → Basis
certain i = record { i = i; r = 0; pay = 1; P = λ k. 1000000; W = λ k. 0 }
