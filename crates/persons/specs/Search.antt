-- How a person is found: in trees that branch by the bits of the person's number, the last bits first. The 12 last bits choose one of 4,096 trees, and
-- each bit before them a branch, so that two persons part after 18 branches at the latest (no proof needs that). A search only goes to higher cells.
use Rattle.std.specs.Prelude.{ℕ, zero, suc, ◌+◌, ◌-◌, ◌*◌, ◌/◌, ◌%◌, ◌≤◌, ◌<◌, ◌≡◌, List, Bool, true, false, ◌||◌, ◌⊎◌, length, get_or, eqb}
use Rattle.persons.specs.Held.{person_at, sum_at}

-- the line in a cell, 0 for none
abbrev pub line_in : (cells : List ℕ) → ℕ → ℕ
line_in cells cell = get_or cells cell 0

-- the cell after a line, by what is left of the person's number
abbrev pub branch : (line rest : ℕ) → ℕ
branch line rest = 4096 + (2 * line + rest % 2)

module _ (cells : List ℕ) (sums : List (List ℕ)) (person : ℕ) where
  -- a search ends where a cell is empty, or holds the person
  unfoldable pub stops_at : (cell : ℕ) → Bool
  stops_at cell = eqb (line_in cells cell) 0 || eqb (person_at sums (line_in cells cell - 1)) person

  -- it ends at the cell `last`, after so many steps
  abbrev pub Leads : (steps cell rest last : ℕ) → Type 0
  Leads zero cell rest last = (cell ≡ last) × (stops_at cell ≡ true)
  Leads (suc steps) cell rest last =
      (stops_at cell ≡ false) × Leads steps (branch (line_in cells cell) rest) (rest / 2) last

  pub record Found (last : ℕ) : Type 0 where
    pub steps : ℕ
    pub way : Leads steps (person % 4096) (person / 4096) last

-- every line in a cell is one of 1,000, and the cells after it are higher ones
pub record Searchable (cells : List ℕ) : Type 0 where
  pub room : length cells ≡ 6098
  pub few : (cell : ℕ) → line_in cells cell ≤ 1000
  pub climbs : (cell : ℕ) → (line_in cells cell ≡ 0) ⊎ (cell < 4096 + 2 * line_in cells cell)

-- the person at place j is found, in the cell of that line
pub record Known (cells : List ℕ) (sums : List (List ℕ)) (j : ℕ) : Type 0 where
  pub cell : ℕ
  pub found : Found cells sums (person_at sums j) cell
  pub line : line_in cells cell ≡ j + 1

-- after n lines: whoever holds a place is found there
pub record Rooted (cells : List ℕ) (sums : List (List ℕ)) (n : ℕ) : Type 0 where
  pub searchable : Searchable cells
  pub places : length sums ≡ 1000
  -- no cell holds a line that is still to come, and no such line's place is taken
  pub early : (cell : ℕ) → line_in cells cell ≤ n
  pub blank : (j : ℕ) → n ≤ j → (person_at sums j ≡ 0) × (sum_at sums j ≡ 0)
  -- rule 7.10, of what is accepted so far
  pub low : (j : ℕ) → sum_at sums j ≤ 100000000
  pub known : (j : ℕ) → (person_at sums j ≡ 0 → ⊥) → Known cells sums j
