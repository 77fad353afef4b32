-- A table that stands as one list of numbers, four for each age.
use Rattle.std.specs.Prelude.{List, [], ◌∷◌, ℕ, zero, suc, ◌+◌, get_or}

-- the four numbers from a place on
abbrev pub row_at : List ℕ → ℕ → List ℕ
row_at numbers at = get_or numbers at 0 ∷ get_or numbers (at + 1) 0 ∷ get_or numbers (at + 2) 0 ∷ get_or numbers (at + 3) 0 ∷ []

-- n rows from a place on
unfoldable pub rows_from : List ℕ → ℕ → ℕ → List (List ℕ)
rows_from numbers at zero = []
rows_from numbers at (suc n) = row_at numbers at ∷ rows_from numbers (at + 4) n

unfoldable pub rows_of : List ℕ → List (List ℕ)
rows_of numbers = rows_from numbers 0 106
