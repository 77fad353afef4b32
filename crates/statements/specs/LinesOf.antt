-- The lines of a text, by their numbers.
use Rattle.std.specs.Prelude.{ℕ, zero, suc, ◌+◌, ◌-◌, List, length}
use Rattle.fields.specs.Split.{upto_of, past_of}
use Rattle.walk.specs.Terms.{term_forms}
use Rattle.rates.specs.Table.{ages}

-- what stands after n lines
unfoldable pub lines_past : ℕ → List ℕ → List ℕ
lines_past zero s = s
lines_past (suc n) s = lines_past n (past_of 10 s)

-- line n of a text, counted from 1, without the byte 10 that ends it
unfoldable pub line_at : ℕ → List ℕ → List ℕ
line_at n s = upto_of 10 (lines_past (n - 1) s)

-- the lines of a case file before the members: a line for each term, one for each of n amendments, and a row for each age
abbrev pub lines_before : (n : ℕ) → ℕ
lines_before n = length term_forms + n + ages

-- the line of the first member
abbrev pub first_member : (n : ℕ) → ℕ
first_member n = lines_before n + 1
