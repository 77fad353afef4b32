-- An amount: the dollars up to the point, and after it two digits and byte 10. `w` is what follows the point.
use Prim.Native.Nat.{ℕ, suc, ◌+◌, ◌-◌, ◌*◌, ◌≤◌, ◌<◌}
use mathlib.Core.Path.{◌≡◌, refl, sym, ap, ◌∙◌}
use mathlib.Core.List.{List, [], ◌∷◌, ◌++◌}
use mathlib.Core.Bool.{Bool, true, false, cond}
use lib.ListN.{length, get_or, drop, length-drop}
use lib.Seq.{drop-cons, get_or-drop}
use lib.Dec.{eqb}
use native.Mathlib.Omega.{arith}
use borrow.Author.Tests.{eqb-true}
use Rattle.fields.specs.declared.numbers.Field.{Field}
use Rattle.std.specs.Prelude.{Option, Some, None}
use Rattle.fields.specs.Split.{seek_of, has_of, upto_of, past_of}
use Rattle.fields.specs.Numbers.{Number, value, malformed, is_digit, all_digits, in_cents, digits_of, whole_of, amount_of}
use Rattle.fields.specs.Values.{placed, field_of}
use Rattle.fields.proofs.SplitLaws.{after, here, cut}
use Rattle.fields.proofs.FieldLaws.{digits_off, lacks_digits}
use Rattle.fields.proofs.LineLaws.{field_is, field_before, field_not}

either_none : (t : Bool) (e : ℕ) → None ≡ cond t (placed malformed e) None
either_none true e = refl
either_none false e = refl

-- no dollars
pub amount_none : (i : ℕ) (s : List ℕ) {r : Option Field} → r ≡ field_of whole_of 46 i s → r ≡ None → None ≡ field_of amount_of 10 i s
unfolding amount_of field_of
amount_none i s read is = pick (has_of 46 l) refl
  where
    l : List ℕ
    l = upto_of 10 (drop i s)

    pick : (t : Bool) → has_of 46 l ≡ t → None ≡ field_of amount_of 10 i s
    pick true h =
        rw (h, field_not 46 (omega arith) (λ e. omega arith) i s read is h)
        (wrong (eqb (length (past_of 46 l)) 2))
      where
        wrong : (t : Bool) → None ≡ cond (has_of 10 (drop i s)) (placed (cond t malformed malformed) (i + seek_of 10 (drop i s))) None
        wrong true = either_none (has_of 10 (drop i s)) (i + seek_of 10 (drop i s))
        wrong false = either_none (has_of 10 (drop i s)) (i + seek_of 10 (drop i s))
    pick false h = rw h (either_none (has_of 10 (drop i s)) (i + seek_of 10 (drop i s)))

-- three bytes in a row
three : (i j k n : ℕ) (s : List ℕ) → suc i ≡ j → suc j ≡ k → suc k ≡ n → k < length s → get_or s k 0 ≡ 10 → drop i s ≡ get_or s i 0 ∷ get_or s j 0 ∷ 10 ∷ drop n s
three i j k n s e f g h end =
    drop-cons s i 0 (omega arith) ∙ ap (λ (m : ℕ). get_or s i 0 ∷ drop m s) e
    ∙ ap (λ (u : List ℕ). get_or s i 0 ∷ u) (drop-cons s j 0 (omega arith) ∙ ap (λ (m : ℕ). get_or s j 0 ∷ drop m s) f)
    ∙ ap (λ (u : List ℕ). get_or s i 0 ∷ get_or s j 0 ∷ u) (drop-cons s k 0 h ∙ λ x. end x ∷ drop (g x) s)

-- the hundredths
abbrev cents : (d : ℕ) → List ℕ → Number
cents d u = cond (eqb (length u) 2) (in_cents (value d) (digits_of u)) malformed

-- `t` is what the code looks at, from the point on
module _ (i : ℕ) (s : List ℕ) {r : Option Field} {dollars : Field} (read : r ≡ field_of whole_of 46 i s) (is : r ≡ Some dollars) {t : List ℕ} (part : t ≡ drop dollars.end s) where
  abbrev p : ℕ
  p = dollars.end

  abbrev d : ℕ
  d = dollars.value

  abbrev w : List ℕ
  w = drop (p + 1) s

  at : (k : ℕ) → get_or t k 0 ≡ get_or s (p + k) 0
  at k = ap (λ (u : List ℕ). get_or u k 0) part ∙ get_or-drop p s k 0

  size_t : length t ≡ length s - p
  size_t = ap length part ∙ length-drop p s

  after_point : field_of amount_of 10 i s ≡ cond (has_of 10 w) (placed (cents d (upto_of 10 w)) (p + 1 + seek_of 10 w)) None
  unfolding amount_of field_of
  after_point =
      let f = field_is whole_of 46 i s read is in
      let b = field_before 46 (omega arith) (λ e. omega arith) i s read is in
      let place : i + seek_of 10 (drop i s) ≡ p + 1 + seek_of 10 (past_of 46 (drop i s)) = omega (arith, f.place, b.seek10) in
      rw (b.has, b.upto, b.past, f.is, b.has10, place, f.rest)

  byte : (k : ℕ) → get_or w k 0 ≡ get_or s (p + 1 + k) 0
  byte k = get_or-drop (p + 1) s k 0

  -- a line of two bytes
  record Two : Type 0 where
    text : upto_of 10 w ≡ get_or w 0 0 ∷ get_or w 1 0 ∷ []
    end : get_or w 2 0 ≡ 10
    size : 3 ≤ length w

  two : has_of 10 w ≡ true → length (upto_of 10 w) ≡ 2 → Two
  two h n = go (upto_of 10 w) refl n (cut 10 w h).is
    where
      go : (u : List ℕ) → upto_of 10 w ≡ u → length u ≡ 2 → w ≡ upto_of 10 w ++ 10 ∷ past_of 10 w → Two
      go [] e n all = absurd (omega arith)
      go (a ∷ []) e n all = absurd (omega arith)
      go (a ∷ b ∷ c ∷ u) e n all = absurd (omega arith)
      go (a ∷ b ∷ []) e n all =
          let parts : w ≡ a ∷ b ∷ 10 ∷ past_of 10 w = all ∙ ap (λ (u : List ℕ). u ++ 10 ∷ past_of 10 w) e in
          let first : get_or w 0 0 ≡ a = ap (λ (v : List ℕ). get_or v 0 0) parts in
          let second : get_or w 1 0 ≡ b = ap (λ (v : List ℕ). get_or v 1 0) parts in
          let size : length w ≡ suc (suc (suc (length (past_of 10 w)))) = ap length parts in
          record { text = rw (first, second) e; end = ap (λ (v : List ℕ). get_or v 2 0) parts; size = omega arith }

  -- no two digits and byte 10 after the point
  wrong : (Two → all_digits (upto_of 10 w) ≡ false) → None ≡ field_of amount_of 10 i s
  unfolding digits_of
  wrong bad = after_point_is (has_of 10 w) refl (eqb (length (upto_of 10 w)) 2) refl
    where
      after_point_is : (h : Bool) → has_of 10 w ≡ h → (t : Bool) → eqb (length (upto_of 10 w)) 2 ≡ t → None ≡ field_of amount_of 10 i s
      after_point_is false h t e = sym (after_point ∙ rw h)
      after_point_is true h false e = sym (after_point ∙ rw (h, e))
      after_point_is true h true e = sym (after_point ∙ rw (h, e, bad (two h (eqb-true _ _ e))))

  pub amount_short : length t < 4 → None ≡ field_of amount_of 10 i s
  amount_short h = wrong (λ u. absurd (omega (arith, u.size, size_t, length-drop (p + 1) s)))

  pub amount_end : (get_or t 3 0 ≡ 10 → ⊥) → None ≡ field_of amount_of 10 i s
  amount_end h =
      let place : p + 1 + 2 ≡ p + 3 = omega arith in
      wrong (λ u. absurd (h (at 3 ∙ sym (byte 2 ∙ ap (λ (k : ℕ). get_or s k 0) place) ∙ u.end)))

  pub first_off : is_digit (get_or t 1 0) ≡ false → None ≡ field_of amount_of 10 i s
  first_off e =
      let place : p + 1 + 0 ≡ p + 1 = omega arith in
      let off : is_digit (get_or w 0 0) ≡ false = ap is_digit (byte 0 ∙ ap (λ (k : ℕ). get_or s k 0) place ∙ sym (at 1)) ∙ e in
      wrong (λ u. rw u.text (digits_off [] (get_or w 0 0) (get_or w 1 0 ∷ []) off))

  pub second_off : is_digit (get_or t 2 0) ≡ false → None ≡ field_of amount_of 10 i s
  second_off e =
      let place : p + 1 + 1 ≡ p + 2 = omega arith in
      let off : is_digit (get_or w 1 0) ≡ false = ap is_digit (byte 1 ∙ ap (λ (k : ℕ). get_or s k 0) place ∙ sym (at 2)) ∙ e in
      wrong (λ u. rw u.text (digits_off (get_or w 0 0 ∷ []) (get_or w 1 0) [] off))

  -- two digits and byte 10 after the point
  pub amount_good : 4 ≤ length t → is_digit (get_or t 1 0) ≡ true → is_digit (get_or t 2 0) ≡ true → get_or t 3 0 ≡ 10 → Some (record { value = d * 100 + (get_or t 1 0 - 48) * 10 + (get_or t 2 0 - 48); end = p + 3 }) ≡ field_of amount_of 10 i s
  unfolding digits_of
  amount_good room first second end =
      let a = get_or t 1 0 in
      let b = get_or t 2 0 in
      let text : all_digits (a ∷ b ∷ []) ≡ true = simp (first, second) in
      let bytes : w ≡ get_or s (p + 1) 0 ∷ get_or s (p + 2) 0 ∷ 10 ∷ drop (p + 4) s = three (p + 1) (p + 2) (p + 3) (p + 4) s (omega arith) (omega arith) (omega arith) (omega (arith, size_t)) (sym (at 3) ∙ end) in
      let parts : w ≡ a ∷ b ∷ 10 ∷ drop (p + 4) s = rw (at 1, at 2) bytes in
      let f = after 10 (a ∷ b ∷ []) (10 ∷ drop (p + 4) s) (lacks_digits 10 (a ∷ b ∷ []) (omega arith) text) in
      let g = here 10 (drop (p + 4) s) in
      let has : has_of 10 w ≡ true = ap (has_of 10) parts ∙ f.has ∙ g.has in
      let upto : upto_of 10 w ≡ a ∷ b ∷ [] = ap (upto_of 10) parts ∙ f.upto ∙ ap (λ (u : List ℕ). a ∷ b ∷ u) g.upto in
      let seek : seek_of 10 w ≡ 2 = ap (seek_of 10) parts ∙ f.seek ∙ omega (arith, g.seek) in
      let sum : d * 100 + (a - 48) * 10 + (b - 48) ≡ d * 100 + ((0 * 10 + (a - 48)) * 10 + (b - 48)) = omega arith in
      let place : p + 3 ≡ p + 1 + 2 = omega arith in
      sym (after_point ∙ rw (has, upto, seek, text, sum, place))
