-- The laws of a table that stands as one list of numbers.
use mathlib.Core.Path.{◌≡◌, refl, ap, ◌∙◌}
use mathlib.Core.List.{List, []}
use Prim.Native.Nat.{ℕ, zero, suc, ◌+◌, ◌*◌, ◌<◌}
use native.Mathlib.Omega.{arith}
use lib.ListN.{length, get_or}
use Rattle.bench_annuity.specs.Rows.{row_at, rows_from, rows_of}

rows_from_length : (numbers : List ℕ) (at n : ℕ) → length (rows_from numbers at n) ≡ n
unfolding rows_from
rows_from_length numbers at zero = refl
rows_from_length numbers at (suc n) = ap suc (rows_from_length numbers (at + 4) n)

rows_from_at : (numbers : List ℕ) (at n j : ℕ) → j < n → get_or (rows_from numbers at n) j [] ≡ row_at numbers (at + 4 * j)
unfolding rows_from
rows_from_at numbers at zero j lt = absurd (omega arith)
rows_from_at numbers at (suc n) zero lt = ap (row_at numbers) {x = at} {y = at + 4 * 0} (omega arith)
rows_from_at numbers at (suc n) (suc j) lt =
    rows_from_at numbers (at + 4) n j (omega arith)
    ∙ ap (row_at numbers) {x = at + 4 + 4 * j} {y = at + 4 * suc j} (omega arith)

pub rows_of_length : (numbers : List ℕ) → length (rows_of numbers) ≡ 106
unfolding rows_of
rows_of_length numbers = rows_from_length numbers 0 106

pub rows_of_at : (numbers : List ℕ) (j : ℕ) → j < 106 → get_or (rows_of numbers) j [] ≡ row_at numbers (4 * j)
unfolding rows_of
rows_of_at numbers j lt = rows_from_at numbers 0 106 j lt ∙ ap (row_at numbers) {x = 0 + 4 * j} {y = 4 * j} (omega arith)
