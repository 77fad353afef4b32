-- No line of a case has a byte 10 of its own.
use mathlib.Core.Path.{◌≡◌, refl}
use mathlib.Core.Bool.{true}
use mathlib.Core.List.{List, [], ◌∷◌, ◌++◌, map}
use Prim.Native.Nat.{ℕ, zero, suc, ◌+◌, ◌/◌, ◌%◌}
use native.Mathlib.Omega.{arith}
use lib.ListN.{length, get_or}
use Rattle.fields.specs.Numbers.{all_digits}
use Rattle.fields.proofs.SplitLaws.{lacks, lacks_both}
use Rattle.fields.proofs.FieldLaws.{is_digit_lem, lacks_digits}
use Rattle.rates.specs.Table.{first_age}
use Rattle.plan.specs.declared.Plan.{Plan}
use Rattle.plan.specs.declared.Amendment.{Amendment}
use Rattle.plan.specs.declared.Member.{Member}
use Rattle.printing.specs.Amounts.{digits, whole_number, amount}
use Rattle.number_texts.proofs.ReadBack.{all_digits_lem}
use Rattle.walk.specs.Walk.{Case}
use Rattle.written.specs.Written.{word_of, formula_words, method_words, term_lines, amendment_line, row_line, row_lines, member_line, end_line, case_lines}
use Rattle.written.proofs.Closing.{AllLack, lack_both}

-- ---- values
whole : (n : ℕ) → lacks 10 (whole_number n) ≡ true
whole n = lacks_digits 10 (whole_number n) (omega arith) (all_digits_lem n)

money : (cents : ℕ) → lacks 10 (amount cents) ≡ true
unfolding amount digits
money cents =
    let tens = is_digit_lem (48 + cents / 10 % 10) (omega arith) (omega arith) in
    let ones = is_digit_lem (48 + cents % 10) (omega arith) (omega arith) in
    let two : all_digits (digits 2 cents) ≡ true = simp (tens, ones) in
    lacks_both 10 (whole_number (cents / 100)) (46 ∷ digits 2 cents) (whole (cents / 100)) (lacks_digits 10 (digits 2 cents) (omega arith) two)

word : (words : List (List ℕ)) → AllLack words → (code : ℕ) → lacks 10 (word_of words code) ≡ true
word words all zero = refl
word [] all (suc k) = refl
word (w ∷ words) all (suc zero) = all.0
word (w ∷ words) all (suc (suc k)) = word words all.1 (suc k)

-- a number, its comma, and what follows
comma : (n : ℕ) (t : List ℕ) → lacks 10 t ≡ true → lacks 10 (whole_number n ++ 44 ∷ t) ≡ true
comma n t free = lacks_both 10 (whole_number n) (44 ∷ t) (whole n) free

-- ---- lines
terms_free : (p : Plan) → AllLack (term_lines p)
unfolding term_lines
terms_free p = (
  whole p.interest,
  (
    whole p.retire,
    (
      whole p.pay,
      (
        word formula_words (refl, (refl, (refl, tt))) p.formula,
        (
          whole p.unit,
          (
            whole p.average,
            (word method_words (refl, (refl, (refl, (refl, (refl, tt))))) p.method, (money p.assets, (whole p.years, tt))),
          ),
        ),
      ),
    ),
  ),
)

amends_free : (l : List Amendment) → AllLack (map amendment_line l)
unfolding amendment_line
amends_free [] = tt
amends_free (a ∷ l) = (comma _ _ (comma _ _ (comma _ _ (whole a.struck))), amends_free l)

rows_free : (age : ℕ) (rows : List (List ℕ)) → AllLack (row_lines age rows)
unfolding row_lines row_line
rows_free age [] = tt
rows_free age (row ∷ rows) =
    (comma _ _ (comma _ _ (comma _ _ (comma _ _ (whole (get_or row 3 0))))), rows_free (suc age) rows)

members_free : (l : List Member) → AllLack (map member_line l)
unfolding member_line
members_free [] = tt
members_free (m ∷ l) = (comma _ _ (comma _ _ (comma _ _ (comma _ _ (money m.salary)))), members_free l)

pub case_free : (c : Case) → AllLack (case_lines c)
unfolding case_lines end_line
case_free c =
    let head = term_lines c.plan in
    let list = map amendment_line c.amends in
    let table = row_lines first_age c.rows in
    let people = map member_line c.members in
    let listed = lack_both head list (terms_free c.plan) (amends_free c.amends) in
    let tabled = lack_both (head ++ list) table listed (rows_free first_age c.rows) in
    let all = lack_both (head ++ list ++ table) people tabled (members_free c.members) in
    lack_both (head ++ list ++ table ++ people) (end_line (length c.members) ∷ []) all (whole (length c.members), tt)
