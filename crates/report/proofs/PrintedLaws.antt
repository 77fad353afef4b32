-- The lines that the code writes are those that are printed, and how long the line of a refusal can be.
use mathlib.Core.Path.{◌≡◌, refl, sym}
use mathlib.Core.List.{List, [], ◌∷◌, ◌++◌, append_assoc, append-nil}
use Prim.Native.Nat.{ℕ, zero, suc, ◌+◌, ◌^◌, ◌≤◌, ◌<◌}
use native.Mathlib.Numerals.{add-one}
use native.Mathlib.Omega.{arith}
use lib.ListN.{length, length-append}
use lib.IntN.{pos, ◌-ℤ◌, ◌*ℤ◌}
use Rattle.rounding.specs.Nearest.{nearest_ℤ}
use Rattle.rounding.specs.declared.Signed.{Signed}
use Rattle.rounding.specs.Signed.{integer_of, signed}
use Rattle.factors.specs.Factors.{S, C}
use Rattle.plan.specs.declared.Plan.{Plan}
use Rattle.plan.specs.declared.Member.{Member}
use Rattle.members.specs.Array.{member_at}
use Rattle.printed_lines.specs.Lines.{pair_line}
use Rattle.printing.specs.declared.Page.{Page}
use Rattle.printing.specs.Puts.{Puts}
use Rattle.printing.proofs.AmountLaws.{whole_most}
use Rattle.printing.proofs.SetsLaws.{nothing, ◌then◌}
use Rattle.totals.specs.declared.Totals.{Totals}
use Rattle.totals.specs.Totals.{totals, unfunded, supplemental}
use Rattle.all_figures.specs.Worked.{figures_in, members_in, AreWorked}
use Rattle.funding.proofs.FundingLaws.{integer_signed}
use Rattle.report.specs.Lines.{figures_line, member_line, member_lines, plan_lines, printed, refusal_line}
use Rattle.report.specs.MemberLines.{lines_in}

-- ---- the members' lines, one after the other
module _ (members worked : List (List ℕ)) where
  pub lines_none : (old : Page) → Puts old (lines_in members worked 0) old
  unfolding lines_in
  lines_none old = nothing old

  pub line_on : (j : ℕ) {old now new : Page} → Puts old (lines_in members worked j) now → Puts now (figures_line (member_at members j).id (figures_in worked j)) new → Puts old (lines_in members worked (j + 1)) new
  unfolding lines_in
  line_on j p q = rw (add-one j) (p then q)

-- ---- the arrays hold what is printed
module _ (p : Plan) (rows : List (List ℕ)) where
  lines_more : (l : List Member) (m : Member) → member_lines p rows (l ++ m ∷ []) ≡ member_lines p rows l ++ member_line p rows m
  unfolding member_lines
  lines_more [] m = append-nil (member_line p rows m)
  lines_more (x ∷ l) m = rw (lines_more l m) (sym (append_assoc (member_line p rows x) (member_lines p rows l) (member_line p rows m)))

  module _ (members worked : List (List ℕ)) where
    lines_are : (n : ℕ) → AreWorked p rows members worked n → lines_in members worked n ≡ member_lines p rows (members_in members n)
    unfolding lines_in members_in member_lines member_line
    lines_are zero is = refl
    lines_are (suc n) is =
        rw (is n (omega arith), lines_are n (λ j h. is j (omega arith))) (sym (lines_more (members_in members n) (member_at members n)))

    members_count : (n : ℕ) → length (members_in members n) ≡ n
    unfolding members_in
    members_count zero = refl
    members_count (suc n) = simp (length-append, members_count n) (omega arith)

    pub printed_is : (n : ℕ) {t : Totals} {u s : Signed} → AreWorked p rows members worked n → t ≡ totals p rows (members_in members n) → u ≡ signed (pos t.liability -ℤ pos p.assets) → s ≡ signed (nearest_ℤ (integer_of u *ℤ pos S) (C p.interest p.years)) → lines_in members worked n ++ plan_lines n t (integer_of u) (integer_of s) ≡ printed p rows (members_in members n)
    unfolding printed unfunded supplemental
    printed_is n is sums z w =
        rw (w, z, integer_signed, integer_signed, sums, lines_are n is, members_count n)

-- ---- the line of a refusal
-- a word has 20 digits at most, so that the line of a refusal has 50 bytes at most
pub refusal_line_most : (number line : ℕ) → number < 2 ^ 64 → line < 2 ^ 64 → length (refusal_line number line) ≤ 50
unfolding refusal_line pair_line
refusal_line_most number line hn hl =
    simp length-append (omega (arith, whole_most 19 number (omega arith), whole_most 19 line (omega arith)))
