-- What the columns of T and Z hold (rules 8.6, 8.7 and 8.11): one for each end age, and in it a place for each age.
use Rattle.std.specs.Prelude.{◌≡◌, Bool, true, false, List, [], ℕ, ◌-◌, ◌≤◌, length, get_or}
use Rattle.rates.specs.Table.{first_age}
use Rattle.year_steps.specs.Filled.{Filled}

-- rules 2.3, 4.3 and 4.4: a member's end ages, its own age and r, lie between 15 and 75, so there are 61
abbrev pub last_end : ℕ
last_end = 75

abbrev pub ends : ℕ
ends = 61

-- the column of end age e
abbrev pub column : List (List ℕ) → ℕ → List ℕ
column columns e = get_or columns (e - first_age) []

-- it is marked as filled
abbrev pub Marked : List Bool → ℕ → Type 0
Marked marks e = get_or marks (e - first_age) false ≡ true

-- every marked column holds F(k,e) in the place of each age k up to its end age e; of the others nothing is known
pub record FilledColumns (F : (k e : ℕ) → ℕ) (columns : List (List ℕ)) (marks : List Bool) : Type 0 where
  pub width : length columns ≡ ends
  pub places : length marks ≡ ends
  pub filled : (e : ℕ) → first_age ≤ e → e ≤ last_end → Marked marks e → Filled (λ k. F k e) e first_age (column columns e)

-- what is filled stays: a column that is marked before is marked after, and is the same
pub record ColumnsKept (columns : List (List ℕ)) (marks : List Bool) (columns' : List (List ℕ)) (marks' : List Bool) : Type 0 where
  pub marked : (e : ℕ) → Marked marks e → Marked marks' e
  pub same : (e : ℕ) → Marked marks e → column columns' e ≡ column columns e
