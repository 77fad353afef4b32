-- What is in force, specs/Statements.antt.
use Prim.Native.Nat.{ℕ, ◌+◌, ◌≤◌, ◌<◌}
use mathlib.Core.Path.{◌≡◌, refl, sym, ap, ◌∙◌}
use mathlib.Core.Logic.{◌⊎◌, inl, inr, ⊎_elim}
use mathlib.Core.List.{List, [], ◌∷◌, ◌++◌, append_assoc}
use mathlib.Core.Bool.{Bool, true, false, cond, ◌||◌}
use lib.Dec.{eqb}
use native.Mathlib.Omega.{arith}
use native.Mathlib.Nat.{add-zero}
use borrow.Author.Tests.{eqb-true, eq-eqb}
use Rattle.plan.specs.declared.Plan.{Plan}
use Rattle.plan.specs.declared.Amendment.{Amendment}
use Rattle.rules.proofs.RuleLaws.{both_true, either_true}
use Rattle.amendments.specs.Force.{listed, stands, joined, in_force_after, in_force}
use Rattle.amendments.specs.Judging.{each_refusal}
use Rattle.amendments.specs.Statements.{In, Keeps, InForceExactly, InForceOfList, RestsOn, directly, indirectly, StruckPutsOut, NoAdditions}
use Rattle.amendments.proofs.Keeping.{in_left, in_right, in_either, in_split, listed_in, in_listed, or_right, keeps_at, list_kept}

-- ---- down the list
joined_in : (a : Amendment) (force : List Amendment) (b : Amendment) (t : Bool) → In a (cond t (force ++ b ∷ []) force) → In a force ⊎ In a (b ∷ [])
joined_in a force b true i = in_either a force (b ∷ []) i
joined_in a force b false i = inl i

in_joined : (a : Amendment) (force : List Amendment) (b : Amendment) (t : Bool) → In a force → In a (cond t (force ++ b ∷ []) force)
in_joined a force b true i = in_left a force (b ∷ []) i
in_joined a force b false i = i

force_from : (a : Amendment) (force l : List Amendment) → In a (in_force_after force l) → In a force ⊎ In a l
unfolding in_force_after
force_from a force [] i = inl i
force_from a force (b ∷ l) i =
    ⊎_elim
    (λ (j : In a (joined force b)). ⊎_elim inl (λ (k : In a (b ∷ [])). inr (⊎_elim inl (λ (z : ⊥). absurd z) k)) (joined_in a force b (stands force b) j))
    (λ (j : In a l). inr (inr j))
    (force_from a (joined force b) l i)

force_stays : (a : Amendment) (force l : List Amendment) → In a force → In a (in_force_after force l)
unfolding in_force_after
force_stays a force [] i = i
force_stays a force (b ∷ l) i = force_stays a (joined force b) l (in_joined a force b (stands force b) i)

force_both : (force b l : List Amendment) → in_force_after force (b ++ l) ≡ in_force_after (in_force_after force b) l
unfolding in_force_after
force_both force [] l = refl
force_both force (a ∷ b) l = force_both (joined force a) b l

pub in_force_of_list : InForceOfList
in_force_of_list l a i = ⊎_elim (λ (z : ⊥). absurd z) (λ (j : In a l). j) (force_from a [] l i)

-- ---- at one place of a list whose amendments are kept
module _ (l : List Amendment) (e : each_refusal [] l ≡ 0) (b later : List Amendment) (a : Amendment) (is : l ≡ b ++ a ∷ later) where
  abbrev earlier : List Amendment
  earlier = in_force b

  force_is : in_force l ≡ in_force_after (joined earlier a) later
  unfolding in_force_after
  force_is = ap in_force is ∙ force_both [] b (a ∷ later)

  own : Keeps b a
  own = keeps_at l e b later a is

  -- the numbers after it are above its own
  later_above : (x : Amendment) → In x later → a.number < x.number
  later_above x i =
      let s = in_split x later i in
      let whole : l ≡ (b ++ a ∷ s.0) ++ x ∷ s.1 = is ∙ ap (λ (r : List Amendment). b ++ a ∷ r) s.2 ∙ sym (append_assoc b (a ∷ s.0) (x ∷ s.1)) in
      (keeps_at l e (b ++ a ∷ s.0) s.1 x whole).rises a (in_right a b (a ∷ s.0) (inl refl))

  -- in force, it stands
  in_stands : In a (in_force l) → stands earlier a ≡ true
  in_stands i = pick (stands earlier a) refl (rw force_is at i)
    where
      pick : (t : Bool) → stands earlier a ≡ t → In a (in_force_after (joined earlier a) later) → stands earlier a ≡ true
      pick true h j = h
      pick false h j =
          let k : In a (in_force_after earlier later) = rw h at j in
          ⊎_elim
          (λ (m : In a earlier). absurd (let z = own.rises a (in_force_of_list b a m) in omega arith))
          (λ (m : In a later). absurd (let z = later_above a m in omega arith))
          (force_from a earlier later k)

  stands_in : stands earlier a ≡ true → In a (in_force l)
  stands_in h =
      rw (force_is, h) (force_stays a (earlier ++ a ∷ []) later (in_right a earlier (a ∷ []) (inl refl)))

  -- what stands before it in force
  in_before : (x : Amendment) → In x (in_force l) → x.number < a.number → In x earlier
  in_before x i low =
      ⊎_elim
      (λ (j : In x (joined earlier a)). ⊎_elim (λ (k : In x earlier). k) (λ (k : In x (a ∷ [])). ⊎_elim (λ (same : x ≡ a). absurd (let z = ap (λ (y : Amendment). y.number) same in omega arith)) (λ (z : ⊥). absurd z) k) (joined_in x earlier a (stands earlier a) j))
      (λ (j : In x later). absurd (let z = later_above x j in omega arith))
      (force_from x (joined earlier a) later (rw force_is at i))

  abbrev Rest : Type 0
  Rest = (a.rests ≡ 0) ⊎ ((x : Amendment) × In x (in_force l) × (x.number ≡ a.rests))

  exactly_to : In a (in_force l) → (a.struck ≡ 0) × Rest
  unfolding stands
  exactly_to i =
      let none = eqb a.rests 0 in
      let there = listed a.rests earlier in
      let k = both_true (eqb a.struck 0) (none || there) (in_stands i) in (
        eqb-true a.struck 0 k.0,
        ⊎_elim
            (λ (h : none ≡ true). inl (eqb-true a.rests 0 h))
            (λ (h : there ≡ true). let s = listed_in a.rests earlier h in inr (s.0, rw force_is (force_stays s.0 (joined earlier a) later (in_joined s.0 earlier a (stands earlier a) s.1)), s.2))
            (either_true none there k.1),
      )

  rest_lower : (x : Amendment) → x.number ≡ a.rests → (a.rests ≡ 0) ⊎ (x.number < a.number)
  rest_lower x same =
      ⊎_elim inl
      (λ (s : (y : Amendment) × In y b × (y.number ≡ a.rests)). inr (let h = own.rises s.0 s.1 in omega (arith, s.2)))
      own.earlier

  exactly_from : a.struck ≡ 0 → Rest → In a (in_force l)
  unfolding stands
  exactly_from unstruck rest = stands_in (simp (eq-eqb a.struck 0 unstruck) (⊎_elim none some rest))
    where
      none : a.rests ≡ 0 → (eqb a.rests 0 || listed a.rests earlier) ≡ true
      none h = simp (eq-eqb a.rests 0 h)

      some : (x : Amendment) × In x (in_force l) × (x.number ≡ a.rests) → (eqb a.rests 0 || listed a.rests earlier) ≡ true
      some s = ⊎_elim none (λ (low : s.0.number < a.number). or_right (eqb a.rests 0) (listed a.rests earlier) (in_listed a.rests s.0 earlier (in_before s.0 s.1 low) s.2)) (rest_lower s.0 s.2)

pub in_force_exactly : InForceExactly
in_force_exactly p l e a i =
    let k = (list_kept p l e).0 in
    let s = in_split a l i in
    ((λ j. exactly_to l k s.0 s.1 a s.2 j), (λ f. exactly_from l k s.0 s.1 a s.2 f.0 f.1))

-- ---- a number has one amendment
one : (l : List Amendment) → each_refusal [] l ≡ 0 → (x y : Amendment) → In x l → In y l → x.number ≡ y.number → x ≡ y
one l e x y i j same =
    let s = in_split x l i in
    ⊎_elim
    (λ (k : In y s.0). absurd (let z = (keeps_at l e s.0 s.1 x s.2).rises y k in omega arith))
    (λ (k : In y (x ∷ s.1)). ⊎_elim (λ (h : y ≡ x). sym h) (λ (m : In y s.1). absurd (let z = later_above l e s.0 s.1 x s.2 y m in omega arith)) k)
    (in_either y s.0 (x ∷ s.1) (rw s.2 at j))

-- ---- struck ones
module _ (p : Plan) (l : List Amendment) (e : each_refusal [] l ≡ 0) where
  above_none : (b : Amendment) → In b l → 1 ≤ b.number
  above_none b i = let s = in_split b l i in (keeps_at l e s.0 s.1 b s.2).number.0

  -- what an amendment in force rests on is in force
  rests_in_force : {a b : Amendment} → RestsOn l a b → In a (in_force l) → In b (in_force l)
  rests_in_force {a} {b} (directly i same) j =
      let s = in_split a l (in_force_of_list l a j) in
      ⊎_elim
      (λ (h : a.rests ≡ 0). absurd (let z = above_none b i in omega arith))
      (λ (r : (x : Amendment) × In x (in_force l) × (x.number ≡ a.rests)). rw (← one l e r.0 b (in_force_of_list l r.0 r.1) i (r.2 ∙ same)) r.1)
      (exactly_to l e s.0 s.1 a s.2 j).1
  rests_in_force (indirectly r t) j = rests_in_force t (rests_in_force r j)

pub struck_puts_out : StruckPutsOut
struck_puts_out p l e a b r struck i =
    let k = (list_kept p l e).0 in
    let j = rests_in_force p l k r i in
    let s = in_split b l (in_force_of_list l b j) in
    let z = (exactly_to l k s.0 s.1 b s.2 j).0 in
    omega arith

-- ---- nothing added
pub no_additions : NoAdditions
no_additions p l e =
    λ i. record {
      interest = p.interest;
      retire = p.retire;
      pay = p.pay;
      formula = p.formula;
      unit = (ap (λ (x : ℕ). p.unit + x) e ∙ add-zero p.unit) i;
      average = p.average;
      method = p.method;
      assets = p.assets;
      years = p.years;
    }
