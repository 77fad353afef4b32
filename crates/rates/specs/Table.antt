-- The table of RULES section 3, a row for each age from 15 up to 120, and staying by it.
use Rattle.std.specs.Prelude.{List, [], ℕ, ◌-◌, ◌≤◌, get_or}
use Rattle.rates.specs.Rates.{death, withdrawal, disability, stays}

-- rule 3.1: a row for each age from 15 to 120
abbrev pub first_age : ℕ
first_age = 15

abbrev pub ages : ℕ
ages = 106

-- the four numbers of age k: death, withdrawal and disability in millionths, and the weight
abbrev pub row : List (List ℕ) → ℕ → List ℕ
row rows k = get_or rows (k - first_age) []

-- rule 3.5, the weight W(k): the salary scale
abbrev pub weight : List (List ℕ) → ℕ → ℕ
weight rows k = get_or (row rows k) 3 0

-- rule 8.2: staying, P(k)
unfoldable pub staying : List (List ℕ) → ℕ → ℕ → ℕ
staying rows r k = stays (row rows k) r k

-- what the code asks of a row, of rules 3.2 and 3.5: each rate is a million at most, and the weight is not above 100000
pub record Sound (row : List ℕ) : Type 0 where
  pub dying : death row ≤ 1000000
  pub withdrawing : withdrawal row ≤ 1000000
  pub disabled : disability row ≤ 1000000
  pub weight : get_or row 3 0 ≤ 100000

-- what the code asks of the rows: the same of the row of each age
abbrev pub Table : List (List ℕ) → Type 0
Table rows = (k : ℕ) → 15 ≤ k → k ≤ 120 → Sound (row rows k)
