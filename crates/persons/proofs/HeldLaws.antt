-- What is held for a person: a place that is written, a person in one place, and a person in none.
use Prim.Native.Nat.{ℕ, zero, suc, ◌+◌, ◌<◌}
use mathlib.Core.Path.{◌≡◌, refl, ◌∙◌}
use mathlib.Core.List.{List, [], ◌∷◌}
use mathlib.Core.Bool.{Bool, true, false, cond}
use lib.ListN.{length, get_or, set, replicate}
use lib.Dec.{eqb}
use native.Mathlib.Omega.{arith}
use native.Mathlib.Nat.{add-zero, zero-add}
use borrow.Author.Tests.{eq-eqb, ne_eqb}
use Rattle.persons.specs.Held.{holds_for, held, person_at, sum_at}

-- ---- a place is written
pub held_set : (places : List (List ℕ)) (i : ℕ) (new : List ℕ) (person : ℕ) → i < length places → held (set places i new) person + holds_for person (get_or places i []) ≡ held places person + holds_for person new
unfolding held
held_set [] i new person h = absurd (omega arith)
held_set (old ∷ places) zero new person h = omega arith
held_set (old ∷ places) (suc i) new person h = omega (arith, held_set places i new person (omega arith))

-- ---- nobody, and a person in one place
pub held_none : (places : List (List ℕ)) (person : ℕ) → ((j : ℕ) → j < length places → person_at places j ≡ person → ⊥) → held places person ≡ 0
unfolding held
held_none [] person none = refl
held_none (place ∷ places) person none =
    rw (ne_eqb (get_or place 0 0) person (none 0 (omega arith)), held_none places person (λ j h. none (suc j) (omega arith)))

pub held_one : (places : List (List ℕ)) (i person : ℕ) → i < length places → person_at places i ≡ person → ((j : ℕ) → j < length places → person_at places j ≡ person → j ≡ i) → held places person ≡ sum_at places i
unfolding held
held_one [] i person h is only = absurd (omega arith)
held_one (place ∷ places) zero person h is only =
    rw (eq-eqb (get_or place 0 0) person is, held_none places person (λ j low at. let z = only (suc j) (omega arith) at in omega arith)) (add-zero (get_or place 1 0))
held_one (place ∷ places) (suc i) person h is only =
    rw (ne_eqb (get_or place 0 0) person (λ at. let z = only 0 (omega arith) at in omega arith)) (zero-add _ ∙ held_one places i person (omega arith) is (λ j low at. let z = only (suc j) (omega arith) at in omega arith))

-- ---- zeros hold nothing for anybody
pub held_zeros : (n person : ℕ) → held (replicate n (replicate 2 0)) person ≡ 0
unfolding held
held_zeros zero person = refl
held_zeros (suc n) person = rw (held_zeros n person) (nothing (eqb 0 person))
  where
    nothing : (b : Bool) → cond b 0 0 + 0 ≡ 0
    nothing true = refl
    nothing false = refl
