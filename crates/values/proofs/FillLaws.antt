-- An array that the values of a line fill, one after the other: m of them with a comma after each, and a last one.
use Prim.Native.Nat.{ℕ, ◌+◌, ◌-◌, ◌≤◌, ◌<◌}
use mathlib.Core.Path.{◌≡◌, sym, ap, ◌∙◌}
use mathlib.Core.List.{List, [], ◌∷◌, ◌++◌}
use Rattle.std.specs.Prelude.{Option, Some, None}
use Rattle.std.proofs.Common.{subst}
use lib.ListN.{length, take, set}
use lib.Seq.{take_all}
use Rattle.std.proofs.lemmas.List.{take_more_set, length-set}
use native.Mathlib.Omega.{arith}
use Rattle.fields.specs.declared.numbers.Field.{Field}
use Rattle.fields.specs.Numbers.{Number, whole_of}
use Rattle.fields.specs.Values.{field_of, values_at}
use Rattle.fields.proofs.ValueLaws.{Along, along_none, comma_read, comma_wrong, last_read, last_wrong}

-- k values are read from place i on, whatever the last one is to be
pub record Filling (s : List ℕ) (m i k : ℕ) (values : List ℕ) (at : ℕ) : Type 0 where
  pub size : length values ≡ m + 1
  pub room : k ≤ m
  pub along : (last : List ℕ → Number) → Along last s m i (m - k) (take k values) at

pub filling_none : (s : List ℕ) (m i : ℕ) {values : List ℕ} → length values ≡ m + 1 → Filling s m i 0 values i
filling_none s m i size =
    record {
      size = size;
      room = omega arith;
      along = λ last. let P : ℕ → Type 0 = λ n. Along last s m i n [] i in subst P (omega arith) (along_none last s m i);
    }

module _ {s : List ℕ} {m i k : ℕ} {values : List ℕ} {at : ℕ} (a : Filling s m i k values at) where
  one_more : k < m → (last : List ℕ → Number) → Along last s m i (m - (k + 1) + 1) (take k values) at
  one_more h last = let P : ℕ → Type 0 = λ n. Along last s m i n (take k values) at in subst P (omega arith) (a.along last)

  module _ (more : k < m) {r : Option Field} (read : r ≡ field_of whole_of 44 at s) where
    pub filling_next : {f : Field} → r ≡ Some f → Filling s m i (k + 1) (set values k f.value) (f.end + 1)
    filling_next {f} is =
        let front : take k values ++ f.value ∷ [] ≡ take (k + 1) (set values k f.value) = sym (take_more_set values k f.value (omega (arith, a.size))) in
        record {
          size = length-set values k f.value ∙ a.size;
          room = omega arith;
          along = λ last. let P : List ℕ → Type 0 = λ us. Along last s m i (m - (k + 1)) us (f.end + 1) in subst P front (comma_read (m - (k + 1)) (one_more more last) read is);
        }

    pub filling_wrong : (last : List ℕ → Number) → r ≡ None → None ≡ values_at last m i s
    filling_wrong last is = comma_wrong (m - (k + 1)) (one_more more last) read is

  all_but_one : m ≤ k → (last : List ℕ → Number) → Along last s m i 0 (take m values) at
  all_but_one h last =
      let same : k ≡ m = omega (arith, a.room) in
      let P : ℕ → Type 0 = λ n. Along last s m i (m - n) (take n values) at in
      let Q : ℕ → Type 0 = λ n. Along last s m i n (take m values) at in
      subst Q (omega arith) (subst P same (a.along last))

  module _ (full : m ≤ k) (last : List ℕ → Number) {r : Option Field} (read : r ≡ field_of last 10 at s) where
    pub filling_last : {f : Field} → r ≡ Some f → Some (set values m f.value, f.end) ≡ values_at last m i s
    filling_last {f} is =
        let whole : set values m f.value ≡ take m values ++ f.value ∷ [] = sym (take_all (m + 1) (set values m f.value) (omega (arith, length-set values m f.value, a.size))) ∙ take_more_set values m f.value (omega (arith, a.size)) in
        ap (λ (vs : List ℕ). Some (vs, f.end)) whole ∙ last_read (all_but_one full last) read is

    pub filling_wrong_last : r ≡ None → None ≡ values_at last m i s
    filling_wrong_last is = last_wrong (all_but_one full last) read is
