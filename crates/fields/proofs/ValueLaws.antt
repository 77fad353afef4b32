-- The values of a line, field by field: those from place i on, whose bytes before place `at` are read.
use Prim.Native.Nat.{ℕ, zero, suc, ◌+◌}
use mathlib.Core.Path.{◌≡◌, refl, sym, ap, ◌∙◌}
use mathlib.Core.List.{List, [], ◌∷◌, ◌++◌, append_assoc}
use mathlib.Core.Bool.{Bool, true, false, cond}
use Rattle.std.specs.Prelude.{Option, Some, None}
use lib.ListN.{length, drop}
use native.Mathlib.Omega.{arith}
use native.Mathlib.Numerals.{add-one}
use Rattle.fields.specs.declared.numbers.Field.{Field}
use Rattle.fields.specs.Split.{seek_of, has_of, upto_of, past_of, starts_of}
use Rattle.fields.specs.Numbers.{Number, value, malformed, whole_of}
use Rattle.fields.specs.Values.{Values, found, misread, before, values_of, keyed_of, field_of, ended, values_at}
use Rattle.fields.proofs.LineLaws.{field_is, field_before, field_not, placed_not}

-- some values before others
abbrev pub prefix : List ℕ → Values → Values
prefix us (found vs) = found (us ++ vs)
prefix us misread = misread

prefix_none : (x : Values) → x ≡ prefix [] x
prefix_none (found vs) = refl
prefix_none misread = refl

prefix_one : (us : List ℕ) (v : ℕ) (x : Values) → prefix us (before (value v) x) ≡ prefix (us ++ v ∷ []) x
prefix_one us v (found vs) = ap found (sym (append_assoc us (v ∷ []) vs))
prefix_one us v misread = refl

-- of m values and a last one from place i on, `us` are read, the line goes on at place `at`, and n commas are to come
pub record Along (last : List ℕ → Number) (s : List ℕ) (m i n : ℕ) (us : List ℕ) (at : ℕ) : Type 0 where
  pub way : values_of last m (upto_of 10 (drop i s)) ≡ prefix us (values_of last n (upto_of 10 (drop at s)))
  pub has : has_of 10 (drop i s) ≡ has_of 10 (drop at s)
  pub seek : i + seek_of 10 (drop i s) ≡ at + seek_of 10 (drop at s)

pub along_none : (last : List ℕ → Number) (s : List ℕ) (m i : ℕ) → Along last s m i m [] i
along_none last s m i = record { way = prefix_none (values_of last m (upto_of 10 (drop i s))); has = refl; seek = refl }

-- a line of a wrong form
none_at : (last : List ℕ → Number) (m i : ℕ) (s : List ℕ) → (has_of 10 (drop i s) ≡ true → values_of last m (upto_of 10 (drop i s)) ≡ misread) → None ≡ values_at last m i s
unfolding values_at
none_at last m i s bad = pick (has_of 10 (drop i s)) refl
  where
    pick : (h : Bool) → has_of 10 (drop i s) ≡ h → None ≡ cond (has_of 10 (drop i s)) (ended (values_of last m (upto_of 10 (drop i s))) (i + seek_of 10 (drop i s))) None
    pick true has = rw (has, bad has)
    pick false has = rw has

-- a whole number and its comma
module _ {last : List ℕ → Number} {s : List ℕ} {m i : ℕ} (n : ℕ) {us : List ℕ} {at : ℕ} (a : Along last s m i (n + 1) us at) {r : Option Field} (read : r ≡ field_of whole_of 44 at s) where
  abbrev line : List ℕ
  line = upto_of 10 (drop at s)

  comma : values_of last (n + 1) line ≡ cond (has_of 44 line) (before (whole_of (upto_of 44 line)) (values_of last n (past_of 44 line))) misread
  unfolding values_of
  comma = rw (add-one n)

  pub comma_read : {f : Field} → r ≡ Some f → Along last s m i n (us ++ f.value ∷ []) (f.end + 1)
  comma_read {f} is =
      let g = field_is whole_of 44 at s read is in
      let b = field_before 44 (omega arith) (λ e. omega arith) at s read is in
      let rest = values_of last n (upto_of 10 (drop (f.end + 1) s)) in
      let on : values_of last (n + 1) line ≡ before (value f.value) rest = comma ∙ rw (b.has, b.upto, b.past, g.is, g.rest) in
      record {
        way = a.way ∙ ap (prefix us) on ∙ prefix_one us f.value rest;
        has = a.has ∙ b.has10 ∙ rw g.rest;
        seek = rw g.rest (omega (arith, a.seek, b.seek10, g.place));
      }

  pub comma_wrong : r ≡ None → None ≡ values_at last m i s
  comma_wrong is = none_at last m i s (λ has. a.way ∙ ap (prefix us) (comma ∙ pick (has_of 44 line) refl))
    where
      pick : (t : Bool) → has_of 44 line ≡ t → cond (has_of 44 line) (before (whole_of (upto_of 44 line)) (values_of last n (past_of 44 line))) misread ≡ misread
      pick true h = rw (h, field_not 44 (omega arith) (λ e. omega arith) at s read is h)
      pick false h = rw h

-- the last value, up to byte 10
module _ {last : List ℕ → Number} {s : List ℕ} {m i : ℕ} {us : List ℕ} {at : ℕ} (a : Along last s m i 0 us at) {r : Option Field} (read : r ≡ field_of last 10 at s) where
  pub last_read : {f : Field} → r ≡ Some f → Some (us ++ f.value ∷ [], f.end) ≡ values_at last m i s
  unfolding values_of values_at
  last_read {f} is =
      let g = field_is last 10 at s read is in
      let all : values_of last m (upto_of 10 (drop i s)) ≡ found (us ++ f.value ∷ []) = a.way ∙ rw g.is in
      let place : i + seek_of 10 (drop i s) ≡ f.end = a.seek ∙ sym g.place in
      rw (a.has ∙ g.has, all, place)

  pub last_wrong : r ≡ None → None ≡ values_at last m i s
  unfolding field_of values_of
  last_wrong is =
      none_at last m i s (λ has. a.way ∙ rw (placed_not (has_of 10 (drop at s)) (last (upto_of 10 (drop at s))) (at + seek_of 10 (drop at s)) (sym is ∙ read) (sym a.has ∙ has)))

-- ---- as many values as were asked for
before_long : (x : Number) (y : Values) (n : ℕ) {vs : List ℕ} → ((us : List ℕ) → y ≡ found us → length us ≡ n) → before x y ≡ found vs → length vs ≡ suc n
before_long (value v) (found us) n many e = let same : v ∷ us ≡ _ = cc in ap length (sym same) ∙ ap suc (many us refl)
before_long (value v) misread n many e = absurd (cc)
before_long malformed y n many e = absurd (cc)

pub values_long : (last : List ℕ → Number) (n : ℕ) (s : List ℕ) {vs : List ℕ} → values_of last n s ≡ found vs → length vs ≡ suc n
unfolding values_of
values_long last zero s e = before_long (last s) (found []) 0 (λ us same. let none : [] ≡ us = cc in ap length (sym none)) e
values_long last (suc n) s e = pick (has_of 44 s) e (λ us same. values_long last n (past_of 44 s) same)
  where
    pick : (t : Bool) {vs : List ℕ} → cond t (before (whole_of (upto_of 44 s)) (values_of last n (past_of 44 s))) misread ≡ found vs → ((us : List ℕ) → values_of last n (past_of 44 s) ≡ found us → length us ≡ suc n) → length vs ≡ suc (suc n)
    pick true e many = before_long (whole_of (upto_of 44 s)) (values_of last n (past_of 44 s)) (suc n) many e
    pick false e many = absurd (cc)

pub keyed_long : (key : List ℕ) (last : List ℕ → Number) (n : ℕ) (s : List ℕ) {vs : List ℕ} → keyed_of key last n s ≡ found vs → length vs ≡ suc n
unfolding keyed_of
keyed_long key last n s e = pick (starts_of key s) e
  where
    pick : (t : Bool) {vs : List ℕ} → cond t (values_of last n (drop (length key) s)) misread ≡ found vs → length vs ≡ suc n
    pick true e = values_long last n (drop (length key) s) e
    pick false e = absurd (cc)
