-- The fields of a line: what stands before a byte b of the line stands there in the bytes too.
use Prim.Native.Nat.{ℕ, ◌+◌, ◌≤◌, ◌<◌}
use mathlib.Core.Path.{◌≡◌, refl, sym, ap, ◌∙◌}
use mathlib.Core.List.{List, [], ◌∷◌, ◌++◌, append_assoc, append-nil}
use mathlib.Core.Bool.{Bool, true, false, cond, not, ◌&&◌}
use lib.ListN.{length, get_or, drop, length-append, length-drop}
use lib.Seq.{take_all, drop-drop}
use lib.Dec.{leb, ltb, eqb}
use native.Mathlib.Omega.{arith}
use borrow.Author.Tests.{ne_eqb, ltb-true, ltb-false, leb-true}
use Rattle.fields.specs.declared.numbers.Field.{Field}
use Rattle.std.specs.Prelude.{Option, Some, None}
use Rattle.fields.specs.Split.{seek_of, has_of, upto_of, past_of}
use Rattle.fields.specs.Numbers.{Number, value, malformed, all_digits, number, digits_of, whole_form, whole_of}
use Rattle.fields.specs.Values.{placed, field_of}
use Rattle.fields.proofs.SplitLaws.{off, and_true_left, and_true_right, lacks, lacks_both, lacks_has, after, here, cut}
use Rattle.fields.proofs.FieldLaws.{lacks_digits, digits_small}

-- ---- a byte b before the first byte 10
pub lacks_left : (b : ℕ) (t u : List ℕ) → lacks b (t ++ u) ≡ true → lacks b t ≡ true
lacks_left b [] u e = refl
lacks_left b (x ∷ t) u e =
    rw (and_true_left (not (eqb x b)) (lacks b (t ++ u)) e, lacks_left b t u (and_true_right (not (eqb x b)) (lacks b (t ++ u)) e))

pub upto_all : (b : ℕ) (s : List ℕ) → has_of b s ≡ false → upto_of b s ≡ s
unfolding upto_of has_of
upto_all b s e = take_all (seek_of b s) s (ltb-false (seek_of b s) (length s) e)

-- `t` and its first line, up to byte 10
pub record Before10 (b : ℕ) (t : List ℕ) : Type 0 where
  pub has : has_of b (upto_of 10 t) ≡ true
  pub upto : upto_of b (upto_of 10 t) ≡ upto_of b t
  pub past : past_of b (upto_of 10 t) ≡ upto_of 10 (past_of b t)
  pub has10 : has_of 10 t ≡ has_of 10 (past_of b t)
  pub seek10 : seek_of 10 t ≡ seek_of b t + 1 + seek_of 10 (past_of b t)

module _ (b : ℕ) (other : b ≡ 10 → ⊥) (t : List ℕ) where
  pub before_10 : has_of b t ≡ true → lacks 10 (upto_of b t) ≡ true → Before10 b t
  before_10 h free =
      let c = cut b t h in
      let u = upto_of b t in
      let w = past_of b t in
      let one : lacks 10 (b ∷ []) ≡ true = simp (ne_eqb b 10 other) in
      let a = after 10 (u ++ b ∷ []) w (lacks_both 10 u (b ∷ []) free one) in
      let whole : t ≡ (u ++ b ∷ []) ++ w = c.is ∙ sym (append_assoc u (b ∷ []) w) in
      let line : upto_of 10 t ≡ u ++ b ∷ upto_of 10 w = ap (upto_of 10) whole ∙ a.upto ∙ append_assoc u (b ∷ []) (upto_of 10 w) in
      let f = after b u (b ∷ upto_of 10 w) c.free in
      let g = after b u (b ∷ w) c.free in
      let k = here b (upto_of 10 w) in
      let seek : seek_of b t ≡ length u = ap (seek_of b) c.is ∙ g.seek ∙ omega (arith, (here b w).seek) in
      record {
        has = rw line (f.has ∙ k.has);
        upto = rw line (f.upto ∙ ap (λ (r : List ℕ). u ++ r) k.upto ∙ append-nil u);
        past = rw line (f.past ∙ k.past);
        has10 = ap (has_of 10) whole ∙ a.has;
        seek10 = ap (seek_of 10) whole ∙ a.seek ∙ omega (arith, seek, length-append u (b ∷ []));
      }

  -- and conversely
  pub in_line : has_of b (upto_of 10 t) ≡ true → (has_of b t ≡ true) × (lacks 10 (upto_of b t) ≡ true)
  in_line h = pick (has_of 10 t) refl
    where
      pick : (v : Bool) → has_of 10 t ≡ v → (has_of b t ≡ true) × (lacks 10 (upto_of b t) ≡ true)
      pick false none =
          let all = upto_all 10 t none in
          let has = rw all at h in
          let c = cut b t has in
          (has, lacks_left 10 (upto_of b t) (b ∷ past_of b t) (rw (← c.is) (lacks_has 10 t none)))
      pick true some =
          let l = upto_of 10 t in
          let line = cut 10 t some in
          let c = cut b l h in
          let u = upto_of b l in
          let w = past_of b l ++ 10 ∷ past_of 10 t in
          let whole : t ≡ u ++ b ∷ w = line.is ∙ ap (λ (r : List ℕ). r ++ 10 ∷ past_of 10 t) c.is ∙ append_assoc u (b ∷ past_of b l) (10 ∷ past_of 10 t) in
          let f = after b u (b ∷ w) c.free in
          let k = here b w in
          let upto : upto_of b t ≡ u = ap (upto_of b) whole ∙ f.upto ∙ ap (λ (r : List ℕ). u ++ r) k.upto ∙ append-nil u in
          (ap (has_of b) whole ∙ f.has ∙ k.has, rw upto (lacks_left 10 u (b ∷ past_of b l) (rw (← c.is) line.free)))

-- ---- a field that was read, or not
record Whole (t : List ℕ) (v : ℕ) : Type 0 where
  all : all_digits t ≡ true
  few : length t ≤ 12
  writes : number 0 t ≡ v

whole_is : (t : List ℕ) (v : ℕ) → whole_of t ≡ value v → Whole t v
unfolding whole_of digits_of
whole_is t v e = pick (whole_form t) refl (all_digits t) refl e
  where
    pick : (f : Bool) → whole_form t ≡ f → (d : Bool) → all_digits t ≡ d → cond f (cond d (value (number 0 t)) malformed) malformed ≡ value v → Whole t v
    pick true form true is e =
        let sizes = and_true_left (leb 1 (length t) && leb (length t) 12) (not (ltb 1 (length t) && eqb (get_or t 0 0) 48)) form in
        record { all = is; few = leb-true _ _ (and_true_right (leb 1 (length t)) (leb (length t) 12) sizes); writes = cc }
    pick true form false is e = let z : ◌≡◌ {A = ℕ} 0 1 = cc in absurd (omega arith)
    pick false form d is e = let z : ◌≡◌ {A = ℕ} 0 1 = cc in absurd (omega arith)

placed_is : (t : Bool) (x : Number) (p : ℕ) {f : Field} → Some f ≡ cond t (placed x p) None → (t ≡ true) × (x ≡ value f.value) × (f.end ≡ p)
placed_is true (value u) p is = (refl, (cc), (cc))
placed_is true malformed p is = cc
placed_is false x p is = cc

pub placed_not : (t : Bool) (x : Number) (p : ℕ) → None ≡ cond t (placed x p) None → t ≡ true → x ≡ malformed
placed_not true (value u) p is on = cc
placed_not true malformed p is on = refl
placed_not false x p is on = off (sym on)

-- the value of a field, at any byte that ends it
pub record FieldIs (form : List ℕ → Number) (b i : ℕ) (f : Field) (s : List ℕ) : Type 0 where
  pub has : has_of b (drop i s) ≡ true
  pub is : form (upto_of b (drop i s)) ≡ value f.value
  pub place : f.end ≡ i + seek_of b (drop i s)
  pub within : f.end < length s
  pub rest : drop (f.end + 1) s ≡ past_of b (drop i s)

pub field_is : (form : List ℕ → Number) (b i : ℕ) (s : List ℕ) {r : Option Field} {f : Field} → r ≡ field_of form b i s → r ≡ Some f → FieldIs form b i f s
unfolding has_of past_of field_of
field_is form b i s {r} {f} read is =
    let t = drop i s in
    let p = placed_is (has_of b t) (form (upto_of b t)) (i + seek_of b t) (sym is ∙ read) in
    let low = ltb-true (seek_of b t) (length t) p.0 in
    let next : i + (seek_of b t + 1) ≡ f.end + 1 = omega (arith, p.2) in
    record {
      has = p.0;
      is = p.1;
      place = p.2;
      within = omega (arith, p.2, low, length-drop i s);
      rest = sym (drop-drop (seek_of b t + 1) i s ∙ ap (λ (k : ℕ). drop k s) next);
    }

module _ (b : ℕ) (no_digit : b < 48) (other : b ≡ 10 → ⊥) (i : ℕ) (s : List ℕ) {r : Option Field} (read : r ≡ field_of whole_of b i s) where
  pub field_before : {f : Field} → r ≡ Some f → Before10 b (drop i s)
  field_before {f} is =
      let g = field_is whole_of b i s read is in
      before_10 b other (drop i s) g.has (lacks_digits 10 (upto_of b (drop i s)) (omega arith) (whole_is (upto_of b (drop i s)) f.value g.is).all)

  pub field_small : {f : Field} → r ≡ Some f → f.value < 1000000000000
  field_small {f} is =
      let w = whole_is (upto_of b (drop i s)) f.value (field_is whole_of b i s read is).is in
      digits_small (upto_of b (drop i s)) w.all w.few w.writes

  pub field_not : r ≡ None → has_of b (upto_of 10 (drop i s)) ≡ true → whole_of (upto_of b (upto_of 10 (drop i s))) ≡ malformed
  unfolding field_of
  field_not is h =
      let t = drop i s in
      let l = in_line b other t h in
      let f = before_10 b other t l.0 l.1 in
      ap whole_of f.upto ∙ placed_not (has_of b t) (whole_of (upto_of b t)) (i + seek_of b t) (sym is ∙ read) l.0
