-- A list that is stored place by place, from the first place on, until it is another list.
use mathlib.Core.Path.{◌≡◌, ◌∙◌}
use mathlib.Core.Logic.{⊎_elim}
use mathlib.Core.List.{List}
use Prim.Native.Nat.{ℕ, ◌+◌, ◌<◌}
use native.Mathlib.Nat.{eq-or-lt_of_le}
use native.Mathlib.Omega.{arith}
use lib.ListN.{length, get_or, set, length-set}
use lib.Seq.{get_or-set_same, get_or-set_other, ext_get_or}

-- xs is as long as ys, and the same below the place j
pub record Stored {A : Type 0} (d : A) (ys xs : List A) (j : ℕ) : Type 0 where
  pub size : length xs ≡ length ys
  pub below : (k : ℕ) → k < j → get_or xs k d ≡ get_or ys k d

module _ {A : Type 0} (d : A) (ys : List A) where
  pub stored_none : {xs : List A} → length xs ≡ length ys → Stored d ys xs 0
  stored_none size = record { size = size; below = λ k lt. absurd (omega arith) }

  pub stored_more : {xs : List A} (j : ℕ) (v : A) → j < length ys → v ≡ get_or ys j d → Stored d ys xs j
      → Stored d ys (set xs j v) (j + 1)
  stored_more {xs} j v lt e held =
      record {
        size = length-set xs j v ∙ held.size;
        below = λ k kj. ⊎_elim
            (λ (q : k ≡ j). rw q (get_or-set_same xs j v d (omega (arith, held.size)) ∙ e))
            (λ (h : k < j). get_or-set_other xs j k v d (omega arith) ∙ held.below k h)
            (eq-or-lt_of_le (omega arith));
      }

  pub stored_all : {xs : List A} → Stored d ys xs (length ys) → xs ≡ ys
  stored_all {xs} held = ext_get_or d xs ys held.size (λ k lt. held.below k (omega (arith, held.size)))
