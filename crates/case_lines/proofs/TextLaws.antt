-- The values of a line, and the lines of a list one after the other.
use mathlib.Core.Path.{◌≡◌}
use mathlib.Core.List.{List, [], ◌∷◌, ◌++◌, map, append_assoc, map-append}
use Prim.Native.Nat.{ℕ, ◌+◌, ◌<◌}
use native.Mathlib.Numerals.{add-one}
use native.Mathlib.Omega.{arith}
use lib.ListN.{length, get_or, take}
use lib.Seq.{take-suc, length-take-le}
use Rattle.printing.specs.Amounts.{whole_number}
use Rattle.printing.specs.declared.Page.{Page}
use Rattle.printing.specs.Puts.{Puts}
use Rattle.printing.proofs.SetsLaws.{nothing, ◌then◌}
use Rattle.written.specs.Written.{with_commas, row_line, row_lines, closed_lines}
use Rattle.written.proofs.LineTexts.{rows_both}
use Rattle.term_lines.proofs.TextLaws.{lines_then}

-- ---- values
-- four, one by one
pub four_values : (key a b c d : List ℕ) → key ++ with_commas (a ∷ b ∷ c ∷ d ∷ []) ≡ key ++ a ++ 44 ∷ b ++ 44 ∷ c ++ 44 ∷ d
four_values key a b c d = simp append_assoc

fifth_value : (key a b c d e : List ℕ) → key ++ with_commas (a ∷ b ∷ c ∷ d ∷ e ∷ []) ≡ key ++ with_commas (a ∷ b ∷ c ∷ d ∷ []) ++ 44 ∷ e
fifth_value key a b c d e = simp append_assoc

-- a line of five
pub five_values : (key : List ℕ) (a b c d : ℕ) (e : List ℕ) {old x y new : Page} → Puts old (key ++ with_commas (whole_number a ∷ whole_number b ∷ whole_number c ∷ whole_number d ∷ [])) x → Puts x (44 ∷ e) y → Puts y (10 ∷ []) new → Puts old (closed_lines ((key ++ with_commas (whole_number a ∷ whole_number b ∷ whole_number c ∷ whole_number d ∷ e ∷ [])) ∷ [])) new
unfolding closed_lines
five_values key a b c d e four fifth ends =
    rw (fifth_value key (whole_number a) (whole_number b) (whole_number c) (whole_number d) e) (four then fifth then ends)

-- ---- lines
-- no line is written
pub no_lines : (old : Page) → Puts old (closed_lines []) old
unfolding closed_lines
no_lines old = nothing old

-- the lines of a list's first values, and one more
pub line_on : {B : Type 0} (line : B → List ℕ) (from : List ℕ → B) (l : List (List ℕ)) (j : ℕ) {old x new : Page} → j < length l → Puts old (closed_lines (map line (map from (take j l)))) x → Puts x (closed_lines (line (from (get_or l j [])) ∷ [])) new → Puts old (closed_lines (map line (map from (take (j + 1) l)))) new
line_on line from l j h p q =
    rw (add-one j, take-suc l j [] h, map-append from (take j l) (get_or l j [] ∷ []), map-append line (map from (take j l)) (from (get_or l j []) ∷ [])) (lines_then _ _ p q)

-- and those of rows, from an age on
pub row_on : (first : ℕ) (rows : List (List ℕ)) (j : ℕ) {age : ℕ} {old x new : Page} → j < length rows → age ≡ first + j → Puts old (closed_lines (row_lines first (take j rows))) x → Puts x (closed_lines (row_line age (get_or rows j []) ∷ [])) new → Puts old (closed_lines (row_lines first (take (j + 1) rows))) new
unfolding row_lines
row_on first rows j h is p q =
    rw (add-one j, take-suc rows j [] h, rows_both first (take j rows) (get_or rows j [] ∷ []), length-take-le j rows (omega arith), ← is) (lines_then _ _ p q)
