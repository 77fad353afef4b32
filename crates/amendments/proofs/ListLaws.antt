-- A list as the code holds it, four numbers for each amendment: the loops over it.
use Prim.Native.Nat.{ℕ, zero, suc, ◌+◌, ◌-◌, ◌*◌, ◌≤◌, ◌<◌}
use mathlib.Core.Path.{◌≡◌, refl, sym, ap, ◌∙◌}
use mathlib.Core.List.{List, [], ◌∷◌, ◌++◌, map-append}
use mathlib.Core.Bool.{Bool, true, false, cond}
use lib.ListN.{length, get_or, take, drop, set, length-set, drop_of_length-le}
use lib.Seq.{drop-cons, take-suc, take-suc-set}
use native.Mathlib.Omega.{arith}
use native.Mathlib.Numerals.{add-one}
use borrow.Author.Tests.{eq-eqb, ne_eqb}
use Rattle.plan.specs.declared.Amendment.{Amendment}
use Rattle.rules.proofs.RuleLaws.{first_refuses, first_passes, first_alone}
use Rattle.plan.specs.Numbers.{amendment_from}
use Rattle.amendments.specs.Force.{amendments_from, listed, stands, joined, in_force_after, in_force, additions}
use Rattle.amendments.specs.Judging.{last_number, amendment_refusal, each_refusal}

-- ---- the amendment at a place, those before it and those from it on
module _ (L : List (List ℕ)) where
  abbrev pub at : ℕ → Amendment
  at j = amendment_from (get_or L j [])

  abbrev pub before : ℕ → List Amendment
  before j = amendments_from (take j L)

  abbrev pub from : ℕ → List Amendment
  from j = amendments_from (drop j L)

  pub from_place : (j : ℕ) → j < length L → from j ≡ at j ∷ from (j + 1)
  from_place j h = rw (add-one j) (ap amendments_from (drop-cons L j [] h))

  pub with_place : (j : ℕ) → j < length L → before (j + 1) ≡ before j ++ at j ∷ []
  with_place j h =
      rw (add-one j) (ap amendments_from (take-suc L j [] h) ∙ map-append amendment_from (take j L) (get_or L j [] ∷ []))

  pub none_left : (j : ℕ) → length L ≤ j → from j ≡ []
  none_left j h = ap amendments_from (drop_of_length-le L h)

  -- ---- a number that is looked for
  module _ (n j : ℕ) (h : j < length L) where
    pub listed_here : (at j).number ≡ n → true ≡ listed n (from j)
    unfolding listed
    listed_here e = rw (from_place j h) (simp (eq-eqb (at j).number n e))

    pub listed_on : ((at j).number ≡ n → ⊥) → listed n (from j) ≡ listed n (from (j + 1))
    unfolding listed
    listed_on e = rw (from_place j h) (simp (ne_eqb (at j).number n e))

  pub listed_none : (n j : ℕ) → length L ≤ j → false ≡ listed n (from j)
  unfolding listed
  listed_none n j h = rw (none_left j h)

  -- ---- the amendments in turn
  module _ (j : ℕ) (h : j < length L) {r : ℕ} (rule : r ≡ amendment_refusal (before j) (at j)) where
    pub each_refused : (r ≡ 0 → ⊥) → r ≡ each_refusal (before j) (from j)
    unfolding each_refusal
    each_refused some =
        rw (from_place j h) (rule ∙ sym (first_refuses (amendment_refusal (before j) (at j)) (each_refusal (before j ++ at j ∷ []) (from (j + 1)) ∷ []) (λ z. some (rule ∙ z))))

    pub each_passed : r ≡ 0 → each_refusal (before j) (from j) ≡ each_refusal (before (j + 1)) (from (j + 1))
    unfolding each_refusal
    each_passed none =
        let later = each_refusal (before j ++ at j ∷ []) (from (j + 1)) in
        rw (from_place j h, with_place j h) (first_passes (amendment_refusal (before j) (at j)) (later ∷ []) (sym rule ∙ none) ∙ first_alone later)

  pub each_done : (j : ℕ) → length L ≤ j → 0 ≡ each_refusal (before j) (from j)
  unfolding each_refusal
  each_done j h = rw (none_left j h)

-- ---- the last number
last_at : (L : List (List ℕ)) (j : ℕ) → length L ≡ suc j → (at L j).number ≡ last_number (amendments_from L)
last_at [] j h = absurd (omega arith)
last_at (a ∷ []) zero h = refl
last_at (a ∷ []) (suc j) h = absurd (omega arith)
last_at (a ∷ b ∷ L) zero h = absurd (omega arith)
last_at (a ∷ b ∷ L) (suc j) h = last_at (b ∷ L) j (omega arith)

pub last_number_lem : (L : List (List ℕ)) → (length L ≡ 0 → ⊥) → (at L (length L - 1)).number ≡ last_number (amendments_from L)
last_number_lem L some = last_at L (length L - 1) (omega arith)

pub no_number : (L : List (List ℕ)) → length L ≡ 0 → 0 ≡ last_number (amendments_from L)
no_number [] h = refl
no_number (a ∷ L) h = absurd (omega arith)

-- ---- those in force, at the front of an array
pub additions_next : (l : List Amendment) (a : Amendment) → additions (l ++ a ∷ []) ≡ additions l + a.add
unfolding additions
additions_next [] a = omega arith
additions_next (b ∷ l) a = omega (arith, additions_next l a)

-- j amendments are passed, and `sum` is what the n of them in force add, which stand at the front of F
pub record Summed (L F : List (List ℕ)) (sum n j : ℕ) : Type 0 where
  pub size : length F ≡ 20
  pub some : n ≤ j
  pub within : j ≤ length L
  pub small : sum ≤ 100000 * j
  pub adds : sum ≡ additions (before F n)
  pub way : in_force_after (before F n) (from L j) ≡ in_force (amendments_from L)

pub summed_none : (L F : List (List ℕ)) → length F ≡ 20 → Summed L F 0 0 0
unfolding additions
summed_none L F size =
    record { size = size; some = omega arith; within = omega arith; small = omega arith; adds = refl; way = refl }

module _ {L F : List (List ℕ)} {sum n j : ℕ} (s : Summed L F sum n j) (more : j < length L) (few : length L ≤ 20) (a : Amendment) (is : a ≡ at L j) where
  passed : (t : Bool) → stands (before F n) a ≡ t → in_force_after (cond t (before F n ++ a ∷ []) (before F n)) (from L (j + 1)) ≡ in_force (amendments_from L)
  unfolding in_force_after
  passed t stood =
      ap (λ (t : Bool). in_force_after (cond t (before F n ++ a ∷ []) (before F n)) (from L (j + 1))) (sym stood)
      ∙ (ap (λ (x : Amendment). in_force_after (joined (before F n) x) (from L (j + 1))) is ∙ (ap (in_force_after (before F n)) (sym (from_place L j more)) ∙ s.way))

  pub summed_out : stands (before F n) a ≡ false → Summed L F sum n (j + 1)
  summed_out out =
      record {
        size = s.size;
        some = omega (arith, s.some);
        within = omega arith;
        small = omega (arith, s.small);
        adds = s.adds;
        way = passed false out;
      }

  pub summed_in : stands (before F n) a ≡ true → a.add ≤ 100000 → Summed L (set F n (get_or L j [])) (sum + a.add) (n + 1) (j + 1)
  summed_in on low =
      let numbers = get_or L j [] in
      let place : n < length F = omega (arith, s.some, s.size) in
      let held : before (set F n numbers) (n + 1) ≡ before F n ++ a ∷ [] =
      rw (add-one n) (ap amendments_from (take-suc-set F n numbers place) ∙ map-append amendment_from (take n F) (numbers ∷ []) ∙ ap (λ (x : Amendment). before F n ++ x ∷ []) (sym is)) in
      record {
        size = length-set F n numbers ∙ s.size;
        some = omega (arith, s.some);
        within = omega arith;
        small = omega (arith, s.small, low);
        adds = rw held (ap (λ (x : ℕ). x + a.add) s.adds ∙ sym (additions_next (before F n) a));
        way = rw held (passed true on);
      }

pub summed_all : {L F : List (List ℕ)} {sum n j : ℕ} → Summed L F sum n j → length L ≤ j → sum ≡ additions (in_force (amendments_from L))
unfolding in_force_after
summed_all {L} {F} {sum} {n} {j} s done =
    s.adds ∙ ap additions (rw (none_left L j done) at s.way)
