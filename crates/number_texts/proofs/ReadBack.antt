-- What is printed reads back as what was printed: rule 13.4, numbers and amounts as in a case file.
use mathlib.Core.Path.{◌≡◌, refl, sym, ap, ◌∙◌}
use mathlib.Core.Bool.{Bool, true, false, not}
use mathlib.Core.List.{List, [], ◌∷◌, ◌++◌, append-nil}
use Prim.Native.Nat.{ℕ, zero, suc, ◌+◌, ◌/◌, ◌%◌, ◌^◌, ◌≤◌, ◌<◌}
use native.Mathlib.Nat.{pow-suc}
use native.Mathlib.Omega.{arith}
use lib.Dec.{ltb}
use lib.ListN.{length, get_or, length-append, get_or-append}
use borrow.Author.Tests.{ltb-true, ltb-false, le-leb, ne_eqb}
use Rattle.fields.specs.Split.{has_of, upto_of, past_of}
use Rattle.fields.specs.Numbers.{value, all_digits, number, whole_form, digits_of, whole_of, amount_of}
use Rattle.fields.proofs.SplitLaws.{and_false, after, here}
use Rattle.fields.proofs.FieldLaws.{is_digit_lem, digits_both, number_more, lacks_digits}
use Rattle.printing.specs.Amounts.{digits, whole_number, amount}
use Rattle.printing.proofs.AmountLaws.{width_one, width_more}
use Rattle.number_texts.specs.Statements.{WholesReadBack, AmountsReadBack}

-- ---- whole numbers, a digit at a time
pub alone : (n : ℕ) → n < 10 → whole_number n ≡ (48 + n) ∷ []
unfolding whole_number digits
alone n h = let e : n % 10 ≡ n = omega arith in rw (width_one n h, e)

pub with_last : (n : ℕ) → 10 ≤ n → whole_number n ≡ whole_number (n / 10) ++ ((48 + n % 10) ∷ [])
unfolding whole_number digits
with_last n h = rw (width_more n h)

-- that s writes n, in w digits and one at most
pub record DigitsOf (w n : ℕ) (s : List ℕ) : Type 0 where
  pub some : 1 ≤ length s
  pub most : length s ≤ suc w
  pub all : all_digits s ≡ true
  pub reads : number 0 s ≡ n
  pub first : 0 < n → get_or s 0 0 ≡ 48 → ⊥

writes_one : (w n : ℕ) → n < 10 → DigitsOf w n (whole_number n)
writes_one w n h =
    rw (alone n h)
    (record {
      some = omega arith;
      most = omega arith;
      all = simp (is_digit_lem (48 + n) (omega arith) (omega arith));
      reads = omega arith;
      first = λ some e. omega arith;
    })

writes_more : (w n : ℕ) → 10 ≤ n → DigitsOf w (n / 10) (whole_number (n / 10)) → DigitsOf (suc w) n (whole_number n)
writes_more w n h less =
    let s = whole_number (n / 10) in
    let b = 48 + n % 10 in
    let long = length-append s (b ∷ []) in
    let begins : get_or (s ++ (b ∷ [])) 0 0 ≡ get_or s 0 0 = get_or-append s (b ∷ []) 0 0 less.some in
    rw (with_last n h)
    (record {
      some = omega arith;
      most = omega arith;
      all = digits_both s (b ∷ []) less.all (simp (is_digit_lem b (omega arith) (omega arith)));
      reads = omega (arith, number_more s 0 b, less.reads);
      first = λ some e. less.first (omega arith) (sym begins ∙ e);
    })

pub writes : (w n : ℕ) → n < 10 ^ suc w → DigitsOf w n (whole_number n)
writes zero n h = writes_one zero n (omega arith)
writes (suc w) n h = let tens = pow-suc 10 (suc w) in pick (ltb n 10) refl (writes w (n / 10) (omega arith))
  where
    pick : (t : Bool) → ltb n 10 ≡ t → DigitsOf w (n / 10) (whole_number (n / 10)) → DigitsOf (suc w) n (whole_number n)
    pick true e less = writes_one (suc w) n (ltb-true n 10 e)
    pick false e less = writes_more w n (ltb-false n 10 e) less

-- a number of any size
below : (n : ℕ) → n < 10 ^ suc n
below zero = omega arith
below (suc n) = let tens = pow-suc 10 (suc n) in omega (arith, tens, below n)

pub digits_read : (n : ℕ) → number 0 (whole_number n) ≡ n
digits_read n = (writes n n (below n)).reads

pub all_digits_lem : (n : ℕ) → all_digits (whole_number n) ≡ true
all_digits_lem n = (writes n n (below n)).all

-- ---- whole numbers
form : (n : ℕ) → n < 1000000000000 → whole_form (whole_number n) ≡ true
form n h = pick (ltb n 10) refl
  where
    pick : (t : Bool) → ltb n 10 ≡ t → whole_form (whole_number n) ≡ true
    pick true e = rw (alone n (ltb-true n 10 e))
    pick false e =
        let is = writes 11 n h in
        simp (le-leb 1 (length (whole_number n)) is.some, le-leb (length (whole_number n)) 12 is.most, ne_eqb (get_or (whole_number n) 0 0) 48 (is.first (omega (arith, ltb-false n 10 e)))) (ap not (and_false (ltb 1 (length (whole_number n)))))

pub wholes_read_back : WholesReadBack
unfolding whole_of digits_of
wholes_read_back n h =
    let is = writes 11 n h in
    simp (form n h, is.all, is.reads)

-- ---- amounts
pub two_digits : (cents : ℕ) → digits_of (digits 2 cents) ≡ value (cents % 100)
unfolding digits digits_of
two_digits cents =
    simp (is_digit_lem (48 + cents / 10 % 10) (omega arith) (omega arith), is_digit_lem (48 + cents % 10) (omega arith) (omega arith))
    (ap value (omega arith))

-- an amount's dollars and hundredths
pub record Parts (cents : ℕ) : Type 0 where
  pub has : has_of 46 (amount cents) ≡ true
  pub upto : upto_of 46 (amount cents) ≡ whole_number (cents / 100)
  pub past : past_of 46 (amount cents) ≡ digits 2 cents

pub parts : (cents : ℕ) → Parts cents
unfolding amount
parts cents =
    let t = whole_number (cents / 100) in
    let u = digits 2 cents in
    let f = after 46 t (46 ∷ u) (lacks_digits 46 t (omega arith) (all_digits_lem (cents / 100))) in
    let g = here 46 u in
    record { has = f.has ∙ g.has; upto = f.upto ∙ rw g.upto (append-nil t); past = f.past ∙ g.past }

pub amounts_read_back : AmountsReadBack
unfolding amount_of digits
amounts_read_back cents h =
    let p = parts cents in
    rw (p.has, p.upto, p.past, wholes_read_back (cents / 100) (omega arith), two_digits cents) (ap value (omega arith))
