-- What the library's own functions on slices answer, in the words of specs/Split.
use Rattle.std.specs.Prelude.{ℕ, suc, ◌≡◌, List, [], ◌∷◌, Bool, true, false, cond, ◌&&◌, length, eqb, refl, nat_eq, Some, None, position}
use Rattle.std.specs.List.{list_any, starts_with, position_or_len}
use lib.Pointwise.{pointwise}
use Rattle.std.proofs.Common.{ap, sym, ◌∙◌}
use Rattle.std.proofs.lemmas.List.Recursion.{is_position_or_len}
use lib.Dec.{leb-suc-suc, eqb-suc-suc}
use native.Mathlib.Omega.{arith}
use borrow.Author.Tests.{lt-ltb, eq-eqb, ne_eqb, eqb-true, eqb-false}
use Rattle.fields.specs.Split.{seek_of, has_of, starts_of, same_of}

eqb_comm : (a b : ℕ) → eqb a b ≡ eqb b a
eqb_comm a b = pick (eqb a b) refl
  where
    pick : (t : Bool) → eqb a b ≡ t → eqb a b ≡ eqb b a
    pick true is = is ∙ sym (eq-eqb b a (sym (eqb-true a b is)))
    pick false is = is ∙ sym (ne_eqb b a (λ e. eqb-false a b is (sym e)))

-- `position`
pub seek_is : (b : ℕ) (s : List ℕ) → position_or_len (λ x. eqb x b) s ≡ seek_of b s
seek_is b s = sym (is_position_or_len (seek_of b) (λ x. eqb x b) refl (λ x xs. ap (λ (n : ℕ). cond (eqb x b) 0 n) (omega arith)) s)

pub place_is : (b : ℕ) (s : List ℕ) → position (λ x. eqb x b) s ≡ cond (has_of b s) (Some (seek_of b s)) None
unfolding has_of
place_is b s = rw (seek_is b s)

-- `contains`
pub any_is : (b : ℕ) (s : List ℕ) → list_any (λ x. eqb x b) s ≡ has_of b s
unfolding has_of
any_is b [] = refl
any_is b (x ∷ s) = pick (eqb x b) refl (any_is b s)
  where
    pick : (t : Bool) → eqb x b ≡ t → list_any (λ y. eqb y b) s ≡ has_of b s → list_any (λ y. eqb y b) (x ∷ s) ≡ has_of b (x ∷ s)
    pick true is on = simp is (sym (lt-ltb 0 (suc (length s)) (omega arith)))
    pick false is on = simp (is, leb-suc-suc) on

-- `starts_with`
pub starts_is : (key s : List ℕ) → starts_with nat_eq s key ≡ starts_of key s
starts_is [] s = refl
starts_is (k ∷ key) [] = refl
starts_is (k ∷ key) (x ∷ s) = rw (eqb_comm k x, starts_is key s)

-- `==`
pub same_is : (key s : List ℕ) → pointwise nat_eq s key ≡ same_of key s
unfolding same_of
same_is [] [] = refl
same_is [] (x ∷ s) = sym (ne_eqb (suc (length s)) 0 (λ e. omega arith))
same_is (k ∷ key) [] = refl
same_is (k ∷ key) (x ∷ s) = pick (eqb x k) (same_is key s)
  where
    pick : (t : Bool) → pointwise nat_eq s key ≡ same_of key s → t && pointwise nat_eq s key ≡ (t && starts_of key s) && eqb (suc (length s)) (suc (length key))
    pick true on = on ∙ ap (λ (t : Bool). starts_of key s && t) (sym (eqb-suc-suc (length s) (length key)))
    pick false on = refl
