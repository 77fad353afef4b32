-- How long the lines can be: that of an accepted member 64 bytes, and those of the plan 145, whatever words their amounts are.
use mathlib.Core.Path.{refl}
use mathlib.Core.Bool.{Bool, true, false, cond, ◌&&◌}
use mathlib.Core.List.{List, ◌∷◌}
use Prim.Native.Nat.{ℕ, zero, suc, ◌+◌, ◌*◌, ◌^◌, ◌≤◌, ◌<◌}
use native.Mathlib.Omega.{arith}
use lib.Dec.{ltb}
use lib.ListN.{length, length-append}
use Rattle.rounding.specs.declared.Signed.{Signed}
use Rattle.rounding.specs.Signed.{integer_of}
use Rattle.costs.specs.declared.Figures.{Figures}
use Rattle.fields.specs.Text.{bytes}
use Rattle.printing.specs.Amounts.{amount}
use Rattle.printed_lines.specs.Lines.{fields, amounts_line, signed_line}
use Rattle.printing.proofs.AmountLaws.{whole_most, amount_most, signed_parts}
use Rattle.totals.specs.declared.Totals.{Totals}
use Rattle.report.specs.Lines.{figures_line, total_line, plan_lines}
use Rattle.report.specs.MemberLines.{lines_in, ShortLine, ShortLines}

pub figures_line_most : (id : ℕ) (f : Figures) → ShortLine id f → length (figures_line id f) ≤ 64
unfolding figures_line amounts_line fields
figures_line_most id f short =
    simp length-append
    (omega (arith, whole_most 8 id (omega arith), amount_most 6 f.benefit (omega arith), amount_most 7 f.value (omega arith), amount_most 7 f.cost (omega arith), amount_most 7 f.liability (omega arith)))

pub lines_most : (members worked : List (List ℕ)) (n : ℕ) → ShortLines members worked n → length (lines_in members worked n) ≤ 64 * n
unfolding lines_in
lines_most members worked zero short = omega arith
lines_most members worked (suc n) short =
    simp length-append (omega (arith, lines_most members worked n (λ j h. short j (omega arith)), figures_line_most _ _ (short n (omega arith))))

-- ---- the plan's lines
either_most : (t : Bool) (cents : ℕ) → cents < 2 ^ 64 → length (cond t (45 ∷ amount cents) (amount cents)) ≤ 22
either_most true cents h = omega (arith, amount_most 17 cents (omega arith))
either_most false cents h = omega (arith, amount_most 17 cents (omega arith))

signed_line_most : (key : List ℕ) (z : Signed) → z.size < 2 ^ 64 → length (signed_line key (integer_of z)) ≤ length key + 23
unfolding signed_line
signed_line_most key z h =
    rw (signed_parts z {t = z.negative && ltb 0 z.size} refl)
    (simp length-append (omega (arith, either_most (z.negative && ltb 0 z.size) z.size h)))

-- a count of 1,000 at most, three words and two sizes
pub plan_lines_most : (count : ℕ) (t : Totals) (u s : Signed) → count ≤ 1000 → t.value < 2 ^ 64 → t.cost < 2 ^ 64 → t.liability < 2 ^ 64 → u.size < 2 ^ 64 → s.size < 2 ^ 64 → length (plan_lines count t (integer_of u) (integer_of s)) ≤ 145
unfolding plan_lines total_line amounts_line fields
plan_lines_most count t u s hc hv hn hl hu hs =
    simp length-append
    (omega (arith, whole_most 3 count (omega arith), amount_most 17 t.value (omega arith), amount_most 17 t.cost (omega arith), amount_most 17 t.liability (omega arith), signed_line_most (bytes "unfunded=") u hu, signed_line_most (bytes "supplemental=") s hs))
