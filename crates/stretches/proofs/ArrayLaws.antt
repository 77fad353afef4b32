-- An array that is filled: one row more, and each in its place.
use Prim.Native.Nat.{ℕ, suc, ◌+◌, ◌≤◌, ◌<◌}
use mathlib.Core.Path.{◌≡◌, sym, ap, ◌∙◌}
use mathlib.Core.List.{List, [], ◌∷◌, ◌++◌}
use lib.ListN.{length, get_or, take, drop, set, replicate, length-replicate, get_or-append}
use lib.Seq.{sets, sets-eq, length-sets, take-append_seam}
use native.Mathlib.Omega.{arith}
use Rattle.stretches.specs.Arrays.{filled}

sets_on : {A : Type 0} (l : List A) (i : ℕ) (vs : List A) (w : A) → sets l i (vs ++ w ∷ []) ≡ set (sets l i vs) (i + length vs) w
sets_on l i [] w = let e : i + 0 ≡ i = omega arith in rw e
sets_on l i (v ∷ vs) w = let e : i + suc (length vs) ≡ suc i + length vs = omega arith in rw e (sets_on (set l i v) (suc i) vs w)

module _ (places : ℕ) (none : List ℕ) (rows : List (List ℕ)) where
  pub filled_next : (row : List ℕ) {j : ℕ} → length rows ≡ j → set (filled places none rows) j row ≡ filled places none (rows ++ row ∷ [])
  unfolding filled
  filled_next row {j} many =
      let place : j ≡ 0 + length rows = omega arith in
      rw place (sym (sets_on (replicate places none) 0 rows row))

  pub filled_size : length (filled places none rows) ≡ places
  unfolding filled
  filled_size = length-sets (replicate places none) 0 rows ∙ length-replicate {A = List ℕ} places none

  module _ (fits : length rows ≤ places) where
    whole : filled places none rows ≡ rows ++ drop (0 + length rows) (replicate places none)
    unfolding filled
    whole =
        let room : 0 + length rows ≤ length (replicate {A = List ℕ} places none) = rw (length-replicate {A = List ℕ} places none) (omega arith) in
        sets-eq rows (replicate places none) 0 room

    pub filled_at : (j : ℕ) → j < length rows → get_or (filled places none rows) j [] ≡ get_or rows j []
    filled_at j h = ap (λ (a : List (List ℕ)). get_or a j []) whole ∙ get_or-append rows _ [] j h

    pub filled_front : take (length rows) (filled places none rows) ≡ rows
    filled_front = ap (take (length rows)) whole ∙ take-append_seam rows _
