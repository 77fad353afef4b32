-- A number that is read digit by digit, up to the byte that ends it.
use Prim.Native.Nat.{ℕ, ◌+◌, ◌-◌, ◌*◌, ◌^◌, ◌≤◌, ◌<◌}
use mathlib.Core.Path.{◌≡◌, refl, sym, ap, ◌∙◌}
use mathlib.Core.List.{List, [], ◌∷◌, ◌++◌, append_assoc, append-nil}
use mathlib.Core.Bool.{Bool, true, false, cond, ◌&&◌}
use mathlib.Core.Logic.{⊎_elim}
use lib.ListN.{length, get_or, drop, drop_of_length-le, length-append, get_or-append}
use lib.Seq.{drop-cons, get_or-drop}
use lib.Dec.{leb, ltb, eqb}
use native.Mathlib.Omega.{arith}
use native.Mathlib.Numerals.{add-one}
use native.Mathlib.Nat.{add-zero, eq-or-lt_of_le, pow-succ', pow-le-pow_right, mul_assoc, mul-le-mul_right, lt_of_lt_of_le}
use borrow.Author.Tests.{eq-eqb, ne_eqb, le-leb, lt-leb, leb-true, lt-ltb, le-ltb}
use Rattle.std.specs.Prelude.{Some, None}
use Rattle.fields.specs.Split.{seek_of, has_of, upto_of}
use Rattle.fields.specs.Numbers.{Number, value, malformed, is_digit, all_digits, number, digits_of, whole_form, whole_of}
use Rattle.fields.specs.Values.{placed, field_of}
use Rattle.fields.proofs.SplitLaws.{and_true_left, and_true_right, and_false, lacks, After, after, here, has_lacks}

-- ---- digits
pub is_digit_lem : (c : ℕ) → 48 ≤ c → c ≤ 57 → is_digit c ≡ true
is_digit_lem c low high = simp (le-leb _ _ low, le-leb _ _ high)

pub digit_low : (c : ℕ) → is_digit c ≡ true → 48 ≤ c
digit_low c e = leb-true _ _ (and_true_left (leb 48 c) (leb c 57) e)

pub digit_high : (c : ℕ) → is_digit c ≡ true → c ≤ 57
digit_high c e = leb-true _ _ (and_true_right (leb 48 c) (leb c 57) e)

pub digits_both : (t u : List ℕ) → all_digits t ≡ true → all_digits u ≡ true → all_digits (t ++ u) ≡ true
digits_both [] u e f = f
digits_both (b ∷ t) u e f =
    simp (and_true_left (is_digit b) (all_digits t) e) (digits_both t u (and_true_right (is_digit b) (all_digits t) e) f)

pub digits_off : (t : List ℕ) (c : ℕ) (u : List ℕ) → is_digit c ≡ false → all_digits (t ++ c ∷ u) ≡ false
digits_off [] c u e = rw e
digits_off (b ∷ t) c u e = rw (digits_off t c u e) (and_false (is_digit b))

pub number_more : (t : List ℕ) (m c : ℕ) → number m (t ++ c ∷ []) ≡ number m t * 10 + (c - 48)
number_more [] m c = refl
number_more (b ∷ t) m c = number_more t (m * 10 + (b - 48)) c

-- bytes 10, 44 and 46 are no digits
pub lacks_digits : (b : ℕ) (t : List ℕ) → b < 48 → all_digits t ≡ true → lacks b t ≡ true
lacks_digits b [] h e = refl
lacks_digits b (x ∷ t) h e =
    let low = digit_low x (and_true_left (is_digit x) (all_digits t) e) in
    simp (ne_eqb x b (λ is. omega arith)) (lacks_digits b t h (and_true_right (is_digit x) (all_digits t) e))

-- digits write a number of as many digits
number_small : (s : List ℕ) (n : ℕ) → all_digits s ≡ true → number n s < (n + 1) * 10 ^ length s
number_small [] n e = omega arith
number_small (b ∷ s) n e =
    let top = digit_high b (and_true_left (is_digit b) (all_digits s) e) in
    let fits : n * 10 + (b - 48) + 1 ≤ (n + 1) * 10 = omega arith in
    rw (pow-succ' 10 (length s), ← mul_assoc (n + 1) 10 (10 ^ length s))
    (lt_of_lt_of_le (number_small s (n * 10 + (b - 48)) (and_true_right (is_digit b) (all_digits s) e)) (mul-le-mul_right (10 ^ length s) fits))

pub digits_small : (t : List ℕ) {n : ℕ} → all_digits t ≡ true → length t ≤ 12 → number 0 t ≡ n → n < 1000000000000
digits_small t all few writes =
    let top : 10 ^ length t ≤ 10 ^ 12 = pow-le-pow_right (omega arith) few in
    omega (arith, number_small t 0 all, writes)

-- ---- from place i up to place j stand at most 12 digits, which write n
pub record Run (s : List ℕ) (i j n : ℕ) : Type 0 where
  pub text : List ℕ
  pub all : all_digits text ≡ true
  pub writes : number 0 text ≡ n
  pub split : drop i s ≡ text ++ drop j s
  pub long : j ≡ i + length text
  pub few : length text ≤ 12

pub run_small : {s : List ℕ} {i j n : ℕ} (r : Run s i j n) → n < 1000000000000
run_small r = digits_small r.text r.all r.few r.writes

pub run_next : {s : List ℕ} {i j n : ℕ} (r : Run s i j n) → j < length s → is_digit (get_or s j 0) ≡ true → j < i + 12 → Run s i (j + 1) (n * 10 + (get_or s j 0 - 48))
run_next {s} {i} {j} {n} r h digit room =
    let c = get_or s j 0 in
    record {
      text = r.text ++ c ∷ [];
      all = digits_both r.text (c ∷ []) r.all (simp digit);
      writes = number_more r.text 0 c ∙ rw r.writes;
      split = rw (add-one, append_assoc, ← drop-cons s j 0 h) r.split;
      long = simp length-append (omega (arith, r.long));
      few = simp length-append (omega (arith, r.long));
    }

-- ---- where the digits stop
either_none : (t : Bool) (e : ℕ) → cond t (placed malformed e) None ≡ None
either_none true e = refl
either_none false e = refl

module _ (form : List ℕ → Number) (b : ℕ) (no_digit : b < 48) {s : List ℕ} {i j n : ℕ} (r : Run s i j n) where
  rest : After b r.text (drop j s)
  rest = after b r.text (drop j s) (lacks_digits b r.text no_digit r.all)

  -- at the end of the bytes
  pub stop_end : length s ≤ j → None ≡ field_of form b i s
  unfolding field_of
  stop_end h =
      let none : has_of b (drop j s) ≡ false = rw (drop_of_length-le s {i = j} h) (has_lacks b [] refl) in
      let same : has_of b (drop i s) ≡ has_of b (drop j s) = ap (has_of b) r.split ∙ rest.has in
      rw (same ∙ none)

  module _ (within : j < length s) where
    next : drop j s ≡ get_or s j 0 ∷ drop (j + 1) s
    next = rw add-one (drop-cons s j 0 within)

    -- at b
    pub stop_here : get_or s j 0 ≡ b → field_of form b i s ≡ placed (form r.text) j
    unfolding field_of
    stop_here is =
        let split : drop i s ≡ r.text ++ b ∷ drop (j + 1) s = rw (← is, ← next) r.split in
        let at = here b (drop (j + 1) s) in
        let a = after b r.text (b ∷ drop (j + 1) s) (lacks_digits b r.text no_digit r.all) in
        let place : i + seek_of b (r.text ++ b ∷ drop (j + 1) s) ≡ j = omega (arith, a.seek, at.seek, r.long) in
        let has : has_of b (r.text ++ b ∷ drop (j + 1) s) ≡ true = a.has ∙ at.has in
        let upto : upto_of b (r.text ++ b ∷ drop (j + 1) s) ≡ r.text = a.upto ∙ ap (λ (u : List ℕ). r.text ++ u) at.upto ∙ append-nil r.text in
        rw (split, has, upto, place)

    -- at another byte: the text goes on
    stop_other : (get_or s j 0 ≡ b → ⊥) → ((u : List ℕ) → form (r.text ++ get_or s j 0 ∷ u) ≡ malformed) → None ≡ field_of form b i s
    unfolding field_of
    stop_other not_b wrong =
        let c = get_or s j 0 in
        let free : lacks b (c ∷ []) ≡ true = simp (ne_eqb c b not_b) in
        let on = after b (c ∷ []) (drop (j + 1) s) free in
        let split : drop i s ≡ r.text ++ c ∷ drop (j + 1) s = rw (← next) r.split in
        let a = after b r.text (c ∷ drop (j + 1) s) (lacks_digits b r.text no_digit r.all) in
        let text : upto_of b (drop i s) ≡ r.text ++ c ∷ upto_of b (drop (j + 1) s) = ap (upto_of b) split ∙ a.upto ∙ ap (λ (u : List ℕ). r.text ++ u) on.upto in
        sym (rw (text, wrong (upto_of b (drop (j + 1) s))) (either_none (has_of b (drop i s)) (i + seek_of b (drop i s))))

-- ---- whole numbers
either_malformed : (t : Bool) → cond t malformed malformed ≡ malformed
either_malformed true = refl
either_malformed false = refl

whole_off : (t : List ℕ) (c : ℕ) → is_digit c ≡ false → (u : List ℕ) → whole_of (t ++ c ∷ u) ≡ malformed
unfolding whole_of digits_of
whole_off t c e u = rw (digits_off t c u e) (either_malformed (whole_form (t ++ c ∷ u)))

whole_long : (t : List ℕ) (c : ℕ) → 12 ≤ length t → (u : List ℕ) → whole_of (t ++ c ∷ u) ≡ malformed
unfolding whole_of
whole_long t c h u =
    let size : 12 < length (t ++ c ∷ u) = simp length-append (omega arith) in
    let some : 1 ≤ length (t ++ c ∷ u) = omega arith in
    simp (le-leb 1 (length (t ++ c ∷ u)) some, lt-leb (length (t ++ c ∷ u)) 12 size)

whole_none : (t : List ℕ) → length t < 1 → whole_of t ≡ malformed
unfolding whole_of
whole_none t h = simp (lt-leb _ _ h)

module _ {s : List ℕ} {i j n : ℕ} (r : Run s i j n) where
  first : i < j → get_or r.text 0 0 ≡ get_or s i 0
  first h =
      let some : 0 < length r.text = omega (arith, r.long) in
      sym (get_or-append r.text (drop j s) 0 0 some) ∙ rw (← r.split) (simp (get_or-drop, add-zero))

  whole_zero : i + 1 < j → get_or s i 0 ≡ 48 → whole_of r.text ≡ malformed
  unfolding whole_of
  whole_zero h is =
      let t = r.text in
      let some : 1 ≤ length t = omega (arith, r.long) in
      let many : 1 < length t = omega (arith, r.long) in
      simp (le-leb _ _ some, le-leb _ _ r.few, lt-ltb _ _ many, eq-eqb _ _ (first (omega arith) ∙ is))

  good : i < j → ltb 1 (length r.text) && eqb (get_or r.text 0 0) 48 ≡ false → whole_of r.text ≡ value n
  unfolding whole_of digits_of
  good h lead =
      let some : 1 ≤ length r.text = omega (arith, r.long) in
      simp (le-leb _ _ some, le-leb _ _ r.few, lead, r.all, r.writes)

  whole_one : i < j → j ≤ i + 1 → whole_of r.text ≡ value n
  whole_one h one = let short : length r.text ≤ 1 = omega (arith, r.long) in good h (simp (le-ltb _ _ short))

  whole_many : i < j → (get_or s i 0 ≡ 48 → ⊥) → whole_of r.text ≡ value n
  whole_many h lead = good h (simp (first h, ne_eqb _ _ lead, and_false))

-- ---- what the reader answers, byte by byte
module _ (b : ℕ) (no_digit : b < 48) {s : List ℕ} {i j n : ℕ} (r : Run s i j n) (within : j < length s) where
  pub field_other : is_digit (get_or s j 0) ≡ false → (get_or s j 0 ≡ b → ⊥) → None ≡ field_of whole_of b i s
  field_other off not_b = stop_other whole_of b no_digit r within not_b (whole_off r.text (get_or s j 0) off)

  pub field_long : is_digit (get_or s j 0) ≡ true → i + 12 ≤ j → None ≡ field_of whole_of b i s
  field_long digit many =
      stop_other whole_of b no_digit r within (λ is. let low = digit_low (get_or s j 0) digit in omega arith) (whole_long r.text (get_or s j 0) (omega (arith, r.long)))

  module _ (is : get_or s j 0 ≡ b) where
    stops : {x : Number} → whole_of r.text ≡ x → placed x j ≡ field_of whole_of b i s
    stops e = sym (stop_here whole_of b no_digit r within is ∙ ap (λ (y : Number). placed y j) e)

    pub field_empty : j ≡ i → None ≡ field_of whole_of b i s
    field_empty none = stops (whole_none r.text (omega (arith, r.long)))

    pub field_zero : i + 1 < j → get_or s i 0 ≡ 48 → None ≡ field_of whole_of b i s
    field_zero many lead = stops (whole_zero r many lead)

    pub field_many : i + 1 < j → (get_or s i 0 ≡ 48 → ⊥) → Some (record { value = n; end = j }) ≡ field_of whole_of b i s
    field_many many lead = stops (whole_many r (omega arith) lead)

    pub field_one : (j ≡ i → ⊥) → j ≤ i + 1 → Some (record { value = n; end = j }) ≡ field_of whole_of b i s
    field_one some one = stops (whole_one r (⊎_elim (λ e. absurd (some (sym e))) (λ l. l) (eq-or-lt_of_le (omega (arith, r.long)))) one)
