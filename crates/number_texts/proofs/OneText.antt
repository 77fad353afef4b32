-- No other bytes are read as a number: what is read is its text.
use mathlib.Core.Path.{◌≡◌, refl, sym, ap, ◌∙◌}
use mathlib.Core.Bool.{Bool, true, false, cond, not, ◌&&◌}
use mathlib.Core.List.{List, [], ◌∷◌, ◌++◌, append_assoc, append-nil}
use Prim.Native.Nat.{ℕ, zero, suc, ◌+◌, ◌-◌, ◌*◌, ◌/◌, ◌%◌, ◌≤◌, ◌<◌}
use native.Mathlib.Omega.{arith}
use lib.Dec.{leb, ltb, eqb}
use lib.ListN.{length}
use borrow.Author.Tests.{eqb-true, eqb-false, lt-ltb, not-true}
use Rattle.fields.specs.Split.{has_of, upto_of, past_of}
use Rattle.fields.specs.Numbers.{Number, value, malformed, is_digit, all_digits, number, whole_form, digits_of, whole_of, in_cents, amount_of}
use Rattle.fields.proofs.SplitLaws.{off, and_true_left, and_true_right, cut}
use Rattle.fields.proofs.FieldLaws.{digit_low, digit_high}
use Rattle.printing.specs.Amounts.{digits, whole_number, amount}
use Rattle.number_texts.specs.Statements.{WholesHaveOneText, AmountsHaveOneText, WholesAreThemselves, AmountsAreThemselves}
use Rattle.number_texts.proofs.ReadBack.{alone, with_last, digits_read, two_digits, parts}

no_value : {A : Type 0} {n : ℕ} → malformed ≡ value n → A
no_value e = let z : ◌≡◌ {A = ℕ} 0 1 = cc in absurd (omega arith)

value_one : {n m : ℕ} → value n ≡ value m → n ≡ m
value_one e = cc

-- ---- whole numbers
-- digits after a number above 0 follow its text
on_and_on : (m : ℕ) (s : List ℕ) → 1 ≤ m → all_digits s ≡ true → whole_number (number m s) ≡ whole_number m ++ s
on_and_on m [] some all = sym (append-nil (whole_number m))
on_and_on m (b ∷ s) some all =
    let is = and_true_left (is_digit b) (all_digits s) all in
    let low = digit_low b is in
    let high = digit_high b is in
    let next = m * 10 + (b - 48) in
    let tens : next / 10 ≡ m = omega arith in
    let last : 48 + next % 10 ≡ b = omega arith in
    on_and_on next s (omega arith) (and_true_right (is_digit b) (all_digits s) all) ∙ rw (with_last next (omega arith), tens, last) (append_assoc (whole_number m) (b ∷ []) s)

-- bytes that are read as a whole number
record Whole (s : List ℕ) (n : ℕ) : Type 0 where
  form : whole_form s ≡ true
  all : all_digits s ≡ true
  writes : number 0 s ≡ n

whole_read : (s : List ℕ) (n : ℕ) → whole_of s ≡ value n → Whole s n
unfolding whole_of digits_of
whole_read s n e = pick (whole_form s) refl (all_digits s) refl e
  where
    pick : (f : Bool) → whole_form s ≡ f → (d : Bool) → all_digits s ≡ d → cond f (cond d (value (number 0 s)) malformed) malformed ≡ value n → Whole s n
    pick true form true all e = record { form = form; all = all; writes = value_one e }
    pick true form false all e = no_value e
    pick false form d all e = no_value e

-- a first digit above 0, and those after it
first_and_others : (b d : ℕ) (s : List ℕ) → b ≡ 48 + suc d → b ≤ 57 → all_digits s ≡ true → b ∷ s ≡ whole_number (number 0 (b ∷ s))
first_and_others b d s is high all =
    let first : 0 * 10 + (b - 48) ≡ suc d = omega arith in
    let one : whole_number (suc d) ≡ b ∷ [] = rw is (alone (suc d) (omega arith)) in
    let on : whole_number (number (suc d) s) ≡ b ∷ s = on_and_on (suc d) s (omega arith) all ∙ ap (λ (t : List ℕ). t ++ s) one in
    sym (ap (λ (n : ℕ). whole_number (number n s)) first ∙ on)

-- what a byte is beside 48
beside : (b : ℕ) → 48 ≤ b → (b ≡ 48 → ⊥) → (d : ℕ) × (b ≡ 48 + suc d)
beside b low other = pick (b - 48) (omega arith)
  where
    pick : (n : ℕ) → b ≡ 48 + n → (d : ℕ) × (b ≡ 48 + suc d)
    pick zero e = absurd (other e)
    pick (suc d) e = (d, e)

text_of : (s : List ℕ) → whole_form s ≡ true → all_digits s ≡ true → s ≡ whole_number (number 0 s)
text_of [] form all = off (sym form)
text_of (b ∷ []) form all =
    let is = and_true_left (is_digit b) true all in
    let low = digit_low b is in
    let high = digit_high b is in
    let first : 0 * 10 + (b - 48) ≡ b - 48 = omega arith in
    let back : 48 + (b - 48) ≡ b = omega arith in
    sym (rw (first, alone (b - 48) (omega arith), back))
text_of (b ∷ c ∷ s) form all =
    let t = c ∷ s in
    let is = and_true_left (is_digit b) (all_digits t) all in
    let long = length (b ∷ t) in
    let many : ltb 1 long ≡ true = lt-ltb 1 long (omega arith) in
    let front : not (eqb b 48) ≡ true = rw many at (and_true_right (leb 1 long && leb long 12) (not (ltb 1 long && eqb b 48)) form) in
    let d = beside b (digit_low b is) (eqb-false b 48 (not-true (eqb b 48) front)) in
    first_and_others b d.0 t d.1 (digit_high b is) (and_true_right (is_digit b) (all_digits t) all)

pub wholes_have_one_text : WholesHaveOneText
wholes_have_one_text s n e = let w = whole_read s n e in text_of s w.form w.all ∙ ap whole_number w.writes

pub wholes_are_themselves : WholesAreThemselves
wholes_are_themselves n m e = sym (whole_read (whole_number n) m e).writes ∙ digits_read n

-- ---- amounts
-- bytes that are read as an amount
record Amount (s : List ℕ) (cents : ℕ) : Type 0 where
  dollars : ℕ
  hundredths : ℕ
  point : has_of 46 s ≡ true
  two : length (past_of 46 s) ≡ 2
  whole : whole_of (upto_of 46 s) ≡ value dollars
  digits : digits_of (past_of 46 s) ≡ value hundredths
  is : dollars * 100 + hundredths ≡ cents

amount_read : (s : List ℕ) (cents : ℕ) → amount_of s ≡ value cents → Amount s cents
unfolding amount_of
amount_read s cents e = pick (has_of 46 s) refl (eqb (length (past_of 46 s)) 2) refl e
  where
    made : has_of 46 s ≡ true → length (past_of 46 s) ≡ 2 → (x y : Number) → whole_of (upto_of 46 s) ≡ x → digits_of (past_of 46 s) ≡ y → in_cents x y ≡ value cents → Amount s cents
    made point two (value d) (value c) whole digits e = record { dollars = d; hundredths = c; point = point; two = two; whole = whole; digits = digits; is = value_one e }
    made point two (value d) malformed whole digits e = no_value e
    made point two malformed y whole digits e = no_value e

    pick : (h : Bool) → has_of 46 s ≡ h → (t : Bool) → eqb (length (past_of 46 s)) 2 ≡ t → cond (h && t) (in_cents (whole_of (upto_of 46 s)) (digits_of (past_of 46 s))) malformed ≡ value cents → Amount s cents
    pick true h true t e = made h (eqb-true _ 2 t) (whole_of (upto_of 46 s)) (digits_of (past_of 46 s)) refl refl e
    pick true h false t e = no_value e
    pick false h t is e = no_value e

-- two digits after so many dollars
record Two (s : List ℕ) (dollars hundredths : ℕ) : Type 0 where
  text : s ≡ digits 2 (dollars * 100 + hundredths)
  small : hundredths < 100

two_read : (s : List ℕ) (dollars hundredths : ℕ) → length s ≡ 2 → digits_of s ≡ value hundredths → Two s dollars hundredths
unfolding digits_of digits
two_read [] d c n e = absurd (omega arith)
two_read (a ∷ []) d c n e = absurd (omega arith)
two_read (a ∷ b ∷ z ∷ s) d c n e = absurd (omega arith)
two_read (a ∷ b ∷ []) d c n e = pick (all_digits (a ∷ b ∷ [])) refl e
  where
    pick : (t : Bool) → all_digits (a ∷ b ∷ []) ≡ t → cond t (value (number 0 (a ∷ b ∷ []))) malformed ≡ value c → Two (a ∷ b ∷ []) d c
    pick false is e = no_value e
    pick true is e =
        let first = and_true_left (is_digit a) (all_digits (b ∷ [])) is in
        let second = and_true_left (is_digit b) true (and_true_right (is_digit a) (all_digits (b ∷ [])) is) in
        let low = digit_low a first in
        let high = digit_high a first in
        let low' = digit_low b second in
        let high' = digit_high b second in
        let sum : (0 * 10 + (a - 48)) * 10 + (b - 48) ≡ c = value_one e in
        let tens : 48 + (d * 100 + c) / 10 % 10 ≡ a = omega arith in
        let ones : 48 + (d * 100 + c) % 10 ≡ b = omega arith in
        record { text = sym (rw (tens, ones)); small = omega arith }

pub amounts_have_one_text : AmountsHaveOneText
unfolding amount
amounts_have_one_text s cents e =
    let a = amount_read s cents e in
    let t = two_read (past_of 46 s) a.dollars a.hundredths a.two a.digits in
    let dollars : a.dollars ≡ cents / 100 = omega (arith, a.is, t.small) in
    (cut 46 s a.point).is ∙ rw (wholes_have_one_text (upto_of 46 s) a.dollars a.whole, t.text, a.is, dollars)

pub amounts_are_themselves : AmountsAreThemselves
amounts_are_themselves cents other e =
    let a = amount_read (amount cents) other e in
    let p = parts cents in
    let dollars = wholes_are_themselves (cents / 100) a.dollars (rw p.upto at a.whole) in
    let hundredths : cents % 100 ≡ a.hundredths = value_one (sym (two_digits cents) ∙ rw p.past at a.digits) in
    omega (arith, a.is, dollars, hundredths)
