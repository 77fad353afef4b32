-- A printed line holds byte 10 at its end alone: so the lines of what is printed are the lines that were printed.
use mathlib.Core.Path.{◌≡◌, refl, ◌∙◌}
use mathlib.Core.Bool.{true}
use mathlib.Core.List.{List, [], ◌∷◌, ◌++◌, append_assoc, append-nil}
use Prim.Native.Nat.{ℕ, zero, suc, ◌+◌, ◌/◌, ◌%◌, ◌≤◌, ◌<◌}
use native.Mathlib.Nat.{le_refl}
use native.Mathlib.Omega.{arith}
use borrow.Author.Tests.{ne_eqb}
use lib.ListN.{length, get_or, drop, drop_of_length-le}
use lib.Seq.{drop-cons, append_snoc}
use Rattle.fields.specs.Text.{bytes}
use Rattle.fields.specs.Split.{upto_of, past_of}
use Rattle.fields.proofs.SplitLaws.{lacks, lacks_both, after, here}
use Rattle.plan.specs.declared.Plan.{Plan}
use Rattle.plan.specs.declared.Member.{Member}
use Rattle.walk.specs.Kept.{nobody}
use Rattle.printing.specs.Amounts.{digits, whole_number, amount}
use Rattle.printed_lines.specs.Lines.{fields, amounts_line}
use Rattle.report.specs.Lines.{figures_line, member_line, member_lines}
use Rattle.statements.specs.LinesOf.{lines_past}

-- ---- texts with no byte 10
plain_digits : (w n : ℕ) → lacks 10 (digits w n) ≡ true
unfolding digits
plain_digits zero n = refl
plain_digits (suc w) n =
    lacks_both 10 (digits w (n / 10)) ((48 + n % 10) ∷ []) (plain_digits w (n / 10)) (simp (ne_eqb (48 + n % 10) 10 (λ e. omega arith)))

plain_fields : (amounts : List ℕ) → lacks 10 (fields amounts) ≡ true
unfolding fields amount whole_number
plain_fields [] = refl
plain_fields (cents ∷ more) =
    lacks_both 10 (amount cents) (fields more) (lacks_both 10 (whole_number (cents / 100)) (46 ∷ digits 2 cents) (plain_digits _ (cents / 100)) (plain_digits 2 cents)) (plain_fields more)

-- ---- lines
pub record Line (l : List ℕ) : Type 0 where
  pub text : List ℕ
  pub plain : lacks 10 text ≡ true
  pub is : l ≡ text ++ (10 ∷ [])

amounts_line_lem : (key : List ℕ) (n : ℕ) (amounts : List ℕ) → lacks 10 key ≡ true → Line (amounts_line key n amounts)
unfolding amounts_line whole_number
amounts_line_lem key n amounts plain =
    record {
      text = key ++ whole_number n ++ fields amounts;
      plain = lacks_both 10 (key ++ whole_number n) (fields amounts) (lacks_both 10 key (whole_number n) plain (plain_digits _ n)) (plain_fields amounts);
      is = refl;
    }

-- a line stands first, and the others after it
module _ {l : List ℕ} (line : Line l) (rest : List ℕ) where
  first_text : upto_of 10 (l ++ rest) ≡ line.text
  first_text =
      rw (line.is, append_snoc line.text 10 rest)
      ((after 10 line.text (10 ∷ rest) line.plain).upto ∙ rw (here 10 rest).upto (append-nil line.text))

  pub next_lines : past_of 10 (l ++ rest) ≡ rest
  next_lines =
      rw (line.is, append_snoc line.text 10 rest) ((after 10 line.text (10 ∷ rest) line.plain).past ∙ (here 10 rest).past)

-- ---- the members' lines
module _ (p : Plan) (rows : List (List ℕ)) where
  pub member_is_line : (m : Member) → Line (member_line p rows m)
  unfolding member_line figures_line
  member_is_line m = amounts_line_lem (bytes "member=") m.id _ refl

  -- after j lines of the members, those of the others
  pub members_past : (l : List Member) (rest : List ℕ) (j : ℕ) → j ≤ length l → lines_past j (member_lines p rows l ++ rest) ≡ member_lines p rows (drop j l) ++ rest
  unfolding lines_past member_lines
  members_past l rest zero h = refl
  members_past [] rest (suc j) h = absurd (omega arith)
  members_past (m ∷ l) rest (suc j) h =
      rw (append_assoc (member_line p rows m) (member_lines p rows l) rest, next_lines (member_is_line m) (member_lines p rows l ++ rest))
      (members_past l rest j (omega arith))

  pub member_text : (l : List Member) (rest : List ℕ) (j : ℕ) → j < length l → upto_of 10 (lines_past j (member_lines p rows l ++ rest)) ≡ (member_is_line (get_or l j nobody)).text
  unfolding member_lines
  member_text l rest j h =
      let m = get_or l j nobody in
      let others = member_lines p rows (drop (suc j) l) in
      rw (members_past l rest j (omega arith), drop-cons l j nobody h, append_assoc (member_line p rows m) others rest)
      (first_text (member_is_line m) (others ++ rest))

  -- and after all of them, what follows
  pub members_done : (l : List Member) (rest : List ℕ) → lines_past (length l) (member_lines p rows l ++ rest) ≡ rest
  unfolding member_lines
  members_done l rest =
      members_past l rest (length l) (le_refl (length l)) ∙ rw (drop_of_length-le l (le_refl (length l)))
