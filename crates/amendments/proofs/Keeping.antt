-- What an accepted list keeps, specs/Statements.antt: each amendment's rules as facts, and back.
use Prim.Native.Nat.{ℕ, suc, ◌+◌, ◌-◌, ◌≤◌, ◌<◌}
use mathlib.Core.Path.{◌≡◌, refl, sym, ap, ◌∙◌}
use mathlib.Core.Logic.{◌⊎◌, inl, inr, ⊎_elim}
use mathlib.Core.List.{List, [], ◌∷◌, ◌++◌, append_assoc, append-nil, map-append}
use mathlib.Core.Bool.{Bool, true, false, cond, ◌&&◌, ◌||◌}
use lib.ListN.{length, get_or, take, drop, length-append, length-map}
use lib.Seq.{split_at}
use lib.Dec.{leb, ltb, eqb}
use native.Mathlib.Omega.{arith}
use borrow.Author.Tests.{leb-true, leb-false, ltb-true, eqb-true, le-leb, lt-leb, lt-ltb, eq-eqb}
use Rattle.plan.specs.declared.Plan.{Plan}
use Rattle.plan.specs.declared.Amendment.{Amendment}
use Rattle.rules.specs.Rules.{unless, between}
use Rattle.rules.specs.Heading.{unit_most}
use Rattle.rules.proofs.RuleLaws.{all_kept, kept_all, kept, both_true, either_true, between_true}
use Rattle.plan.specs.Numbers.{amendment_from}
use Rattle.amendments.specs.Force.{amendments_from, listed, in_force_after, in_force, additions, unit_valued}
use Rattle.amendments.specs.Judging.{most_amendments, last_number, amendment_rules, amendment_refusal, unit_refusal, each_refusal, amendments_refusal}
use Rattle.amendments.specs.Statements.{In, Keeps, AcceptedListKeeps}
use Rattle.amendments.proofs.ListLaws.{at, before}

-- ---- one of some
pub in_left : (a : Amendment) (l m : List Amendment) → In a l → In a (l ++ m)
in_left a [] m i = absurd i
in_left a (b ∷ l) m i = ⊎_elim inl (λ j. inr (in_left a l m j)) i

pub in_right : (a : Amendment) (l m : List Amendment) → In a m → In a (l ++ m)
in_right a [] m i = i
in_right a (b ∷ l) m i = inr (in_right a l m i)

pub in_either : (a : Amendment) (l m : List Amendment) → In a (l ++ m) → In a l ⊎ In a m
in_either a [] m i = inr i
in_either a (b ∷ l) m i = ⊎_elim (λ e. inl (inl e)) (λ j. ⊎_elim (λ k. inl (inr k)) inr (in_either a l m j)) i

-- where it stands
pub in_split : (a : Amendment) (l : List Amendment) → In a l → (b : List Amendment) × (later : List Amendment) × (l ≡ b ++ a ∷ later)
in_split a [] i = absurd i
in_split a (x ∷ l) i =
    ⊎_elim
    (λ (e : a ≡ x). ([], l, ap (λ (y : Amendment). y ∷ l) (sym e)))
    (λ (j : In a l). let s = in_split a l j in (x ∷ s.0, s.1, ap (λ (r : List Amendment). x ∷ r) s.2))
    i

pub listed_in : (n : ℕ) (l : List Amendment) → listed n l ≡ true → (b : Amendment) × In b l × (b.number ≡ n)
unfolding listed
listed_in n [] e = absurd (let z : ◌≡◌ {A = ℕ} 0 1 = cc in omega arith)
listed_in n (a ∷ l) e =
    ⊎_elim
    (λ (h : eqb a.number n ≡ true). (a, inl refl, eqb-true a.number n h))
    (λ (h : listed n l ≡ true). let s = listed_in n l h in (s.0, inr s.1, s.2))
    (either_true (eqb a.number n) (listed n l) e)

pub or_right : (s t : Bool) → t ≡ true → (s || t) ≡ true
or_right true t e = refl
or_right false t e = e

pub in_listed : (n : ℕ) (b : Amendment) (l : List Amendment) → In b l → b.number ≡ n → listed n l ≡ true
unfolding listed
in_listed n b [] i e = absurd i
in_listed n b (a ∷ l) i e =
    ⊎_elim
    (λ (h : b ≡ a). simp (eq-eqb a.number n (ap (λ (x : Amendment). x.number) (sym h) ∙ e)))
    (λ (j : In b l). or_right (eqb a.number n) (listed n l) (in_listed n b l j e))
    i

-- ---- an amendment's rules as facts
pub record Facts (before : List Amendment) (a : Amendment) : Type 0 where
  pub number : (1 ≤ a.number) × (a.number ≤ 999)
  pub rests : a.rests ≤ 999
  pub add : a.add ≤ 100000
  pub struck : a.struck ≤ 1
  pub above : last_number before < a.number
  pub few : length before < most_amendments
  pub earlier : (a.rests ≡ 0) ⊎ (listed a.rests before ≡ true)

pub amendment_facts : (before : List Amendment) (a : Amendment) → amendment_refusal before a ≡ 0 → Facts before a
unfolding amendment_rules
amendment_facts before a e =
    let k = all_kept (amendment_rules before a) e in
    let number = between 1 999 a.number in
    let rests = leb a.rests 999 in
    let add = leb a.add 100000 in
    let struck = leb a.struck 1 in
    let fields = both_true number (rests && (add && struck)) (kept (number && (rests && (add && struck))) 10 k.0) in
    let others = both_true rests (add && struck) fields.1 in
    let last = both_true add struck others.1 in
    let rises = ltb (last_number before) a.number in
    let few = ltb (length before) most_amendments in
    let order = both_true rises few (kept (rises && few) 52 k.1.0) in
    let none = eqb a.rests 0 in
    let there = listed a.rests before in
    record {
      number = between_true 1 999 a.number fields.0;
      rests = leb-true _ _ others.0;
      add = leb-true _ _ last.0;
      struck = leb-true _ _ last.1;
      above = ltb-true _ _ order.0;
      few = ltb-true _ _ order.1;
      earlier = ⊎_elim (λ (h : none ≡ true). inl (eqb-true a.rests 0 h)) inr (either_true none there (kept (none || there) 53 k.1.1.0));
    }

facts_kept : (before : List Amendment) (a : Amendment) → Facts before a → amendment_refusal before a ≡ 0
unfolding amendment_rules
facts_kept before a f =
    kept_all (amendment_rules before a) (
      simp (le-leb 1 a.number f.number.0, le-leb a.number 999 f.number.1, le-leb a.rests 999 f.rests, le-leb a.add 100000 f.add, le-leb a.struck 1 f.struck),
      (simp (lt-ltb (last_number before) a.number f.above, lt-ltb (length before) most_amendments f.few), (rests f.earlier, tt)),
    )
  where
    rests : (a.rests ≡ 0) ⊎ (listed a.rests before ≡ true) → unless (eqb a.rests 0 || listed a.rests before) 54 ≡ 0
    rests = ⊎_elim (λ (h : a.rests ≡ 0). simp (eq-eqb a.rests 0 h)) (λ (h : listed a.rests before ≡ true). ap (λ (t : Bool). unless t 54) (or_right (eqb a.rests 0) (listed a.rests before) h))

-- ---- each of a list
pub each_next : (b l : List Amendment) (a : Amendment) → each_refusal b (a ∷ l) ≡ 0 → (amendment_refusal b a ≡ 0) × (each_refusal (b ++ a ∷ []) l ≡ 0)
unfolding each_refusal
each_next b l a e =
    let k = all_kept (amendment_refusal b a ∷ each_refusal (b ++ a ∷ []) l ∷ []) e in
    (k.0, k.1.0)

pub next_each : (b l : List Amendment) (a : Amendment) → amendment_refusal b a ≡ 0 → each_refusal (b ++ a ∷ []) l ≡ 0 → each_refusal b (a ∷ l) ≡ 0
unfolding each_refusal
next_each b l a h k = kept_all (amendment_refusal b a ∷ each_refusal (b ++ a ∷ []) l ∷ []) (h, (k, tt))

-- up to one of them, and that one
each_at : (b c later : List Amendment) (a : Amendment) → each_refusal b (c ++ a ∷ later) ≡ 0 → amendment_refusal (b ++ c) a ≡ 0
each_at b [] later a e = rw append-nil (each_next b later a e).0
each_at b (x ∷ c) later a e = rw append_assoc at (each_at (b ++ x ∷ []) c later a (each_next b (c ++ a ∷ later) x e).1)

each_upto : (b c later : List Amendment) → each_refusal b (c ++ later) ≡ 0 → each_refusal b c ≡ 0
unfolding each_refusal
each_upto b [] later e = refl
each_upto b (x ∷ c) later e =
    let k = each_next b (c ++ later) x e in
    next_each b c x k.0 (each_upto (b ++ x ∷ []) c later k.1)

-- ---- the numbers rise
last_of : (l : List Amendment) (a : Amendment) → last_number (l ++ a ∷ []) ≡ a.number
last_of [] a = refl
last_of (b ∷ []) a = refl
last_of (b ∷ c ∷ l) a = last_of (c ∷ l) a

abbrev Low : List Amendment → Type 0
Low l = (x : Amendment) → In x l → x.number ≤ last_number l

rising : (b l : List Amendment) → each_refusal b l ≡ 0 → Low b → Low (b ++ l)
rising b [] e low = rw append-nil low
rising b (a ∷ l) e low =
    let k = each_next b l a e in
    let f = amendment_facts b a k.0 in
    let next : Low (b ++ a ∷ []) = λ x i. rw (last_of b a) (⊎_elim (λ (j : In x b). let h = low x j in omega (arith, f.above)) (λ (j : In x (a ∷ [])). ⊎_elim (λ (same : x ≡ a). let h = ap (λ (y : Amendment). y.number) same in omega arith) (λ (j : ⊥). absurd j) j) (in_either x b (a ∷ []) i)) in
    rw append_assoc at (rising (b ++ a ∷ []) l k.1 next)

-- ---- what is kept, at each place
module _ (l : List Amendment) (e : each_refusal [] l ≡ 0) (b later : List Amendment) (a : Amendment) (is : l ≡ b ++ a ∷ later) where
  here : each_refusal [] (b ++ a ∷ later) ≡ 0
  here = rw (← is) e

  pub keeps_at : Keeps b a
  keeps_at =
      let f = amendment_facts b a (each_at [] b later a here) in
      let low = rising [] b (each_upto [] b (a ∷ later) here) (λ x i. absurd i) in
      record {
        number = f.number;
        rests = f.rests;
        add = f.add;
        struck = f.struck;
        rises = λ x i. let h = low x i in omega (arith, f.above);
        few = f.few;
        earlier = ⊎_elim inl (λ h. inr (listed_in a.rests b h)) f.earlier;
      }

-- and back
last_below : (l : List Amendment) (n : ℕ) → 1 ≤ n → ((x : Amendment) → In x l → x.number < n) → last_number l < n
last_below [] n h low = h
last_below (a ∷ []) n h low = low a (inl refl)
last_below (a ∷ b ∷ l) n h low = last_below (b ∷ l) n h (λ x i. low x (inr i))

keeps_rules : (b : List Amendment) (a : Amendment) → Keeps b a → amendment_refusal b a ≡ 0
keeps_rules b a k =
    facts_kept b a
    (record {
      number = k.number;
      rests = k.rests;
      add = k.add;
      struck = k.struck;
      above = last_below b a.number k.number.0 k.rises;
      few = k.few;
      earlier = ⊎_elim inl (λ (s : (x : Amendment) × In x b × (x.number ≡ a.rests)). inr (in_listed a.rests s.0 b s.1 s.2)) k.earlier;
    })

keeps_each : (b l : List Amendment) → ((c later : List Amendment) (a : Amendment) → l ≡ c ++ a ∷ later → Keeps (b ++ c) a) → each_refusal b l ≡ 0
unfolding each_refusal
keeps_each b [] k = refl
keeps_each b (a ∷ l) k =
    next_each b l a (keeps_rules b a (rw append-nil at (k [] l a refl)))
    (keeps_each (b ++ a ∷ []) l (λ c later x is. rw append_assoc (k (a ∷ c) later x (ap (λ (r : List Amendment). a ∷ r) is))))

-- ---- a whole list
pub list_kept : (p : Plan) (l : List Amendment) → amendments_refusal p l ≡ 0 → (each_refusal [] l ≡ 0) × (unit_refusal p l ≡ 0)
unfolding amendments_refusal
list_kept p l e = let k = all_kept (each_refusal [] l ∷ unit_refusal p l ∷ []) e in (k.0, k.1.0)

pub kept_list : (p : Plan) (l : List Amendment) → each_refusal [] l ≡ 0 → unit_refusal p l ≡ 0 → amendments_refusal p l ≡ 0
unfolding amendments_refusal
kept_list p l e u = kept_all (each_refusal [] l ∷ unit_refusal p l ∷ []) (e, (u, tt))

unit_low : (p : Plan) (l : List Amendment) → unit_refusal p l ≡ 0 → (l ≡ [] → ⊥) → unit_valued p l ≤ unit_most p.formula
unfolding unit_refusal
unit_low p [] e some = absurd (some refl)
unit_low p (a ∷ l) e some = leb-true _ _ (kept (leb (unit_valued p (a ∷ l)) (unit_most p.formula)) 54 e)

low_unit : (p : Plan) (l : List Amendment) → ((l ≡ [] → ⊥) → unit_valued p l ≤ unit_most p.formula) → unit_refusal p l ≡ 0
unfolding unit_refusal
low_unit p [] h = refl
low_unit p (a ∷ l) h = simp (le-leb _ _ (h (λ e. let z : ◌≡◌ {A = ℕ} 0 1 = cc in omega arith)))

pub accepted_list_keeps : AcceptedListKeeps
accepted_list_keeps p l = (
  (λ e. let k = list_kept p l e in record { each = keeps_at l k.0; unit = unit_low p l k.1 }),
  (λ k. kept_list p l (keeps_each [] l k.each) (low_unit p l k.unit)),
)

-- the unit valued is in the unit's range, where the heading's is
pub valued_low : (p : Plan) (l : List Amendment) → amendments_refusal p l ≡ 0 → p.unit ≤ unit_most p.formula → unit_valued p l ≤ unit_most p.formula
unfolding additions in_force_after
valued_low p [] e low = omega arith
valued_low p (a ∷ l) e low =
    unit_low p (a ∷ l) (list_kept p (a ∷ l) e).1 (λ e. let z : ◌≡◌ {A = ℕ} 0 1 = cc in omega arith)

-- ---- for the code: how many, and how large an addition
pub few_listed : (l : List Amendment) → each_refusal [] l ≡ 0 → length l ≤ most_amendments
few_listed l e = many [] l e (omega arith)
  where
    many : (b l : List Amendment) → each_refusal b l ≡ 0 → length b ≤ most_amendments → length (b ++ l) ≤ most_amendments
    many b [] e h = rw append-nil h
    many b (a ∷ l) e h =
        let k = each_next b l a e in
        let f = amendment_facts b a k.0 in
        rw append_assoc at (many (b ++ a ∷ []) l k.1 (rw length-append (omega (arith, f.few))))

pub list_few : (L : List (List ℕ)) → each_refusal [] (amendments_from L) ≡ 0 → length L ≤ 20
list_few L e = rw length-map at (few_listed (amendments_from L) e)

pub add_small : (L : List (List ℕ)) → each_refusal [] (amendments_from L) ≡ 0 → (j : ℕ) → j < length L → (at L j).add ≤ 100000
add_small L e j h =
    let place : amendments_from L ≡ before L j ++ at L j ∷ amendments_from (drop (suc j) L) = ap amendments_from (split_at L j [] h) ∙ map-append amendment_from (take j L) (get_or L j [] ∷ drop (suc j) L) in
    (keeps_at (amendments_from L) e (before L j) (amendments_from (drop (suc j) L)) (at L j) place).add

-- ---- for the code: the unit, where nothing is added that might not fit
same_test : (u a m : ℕ) → u ≤ m → leb a (m - u) ≡ leb (u + a) m
same_test u a m low = pick (leb a (m - u)) refl
  where
    pick : (t : Bool) → leb a (m - u) ≡ t → leb a (m - u) ≡ leb (u + a) m
    pick true e = let h = leb-true a (m - u) e in e ∙ sym (le-leb (u + a) m (omega arith))
    pick false e = let h = leb-false a (m - u) e in e ∙ sym (lt-leb (u + a) m (omega arith))

pub unit_none : (p : Plan) (L : List (List ℕ)) → length L ≡ 0 → 0 ≡ unit_refusal p (amendments_from L)
unfolding unit_refusal
unit_none p [] h = refl
unit_none p (a ∷ L) h = absurd (omega arith)

module _ (p : Plan) (L : List (List ℕ)) (some : length L ≡ 0 → ⊥) where
  unit_is : unit_refusal p (amendments_from L) ≡ unless (leb (unit_valued p (amendments_from L)) (unit_most p.formula)) 55
  unfolding unit_refusal
  unit_is = go L some
    where
      go : (L : List (List ℕ)) → (length L ≡ 0 → ⊥) → unit_refusal p (amendments_from L) ≡ unless (leb (unit_valued p (amendments_from L)) (unit_most p.formula)) 55
      go [] some = absurd (some refl)
      go (a ∷ L) some = refl

  pub unit_over : unit_most p.formula < p.unit → 55 ≡ unit_refusal p (amendments_from L)
  unit_over h = sym (unit_is ∙ simp (lt-leb (unit_valued p (amendments_from L)) (unit_most p.formula) (omega arith)))

  pub unit_judged : (r added most : ℕ) → most ≡ unit_most p.formula → p.unit ≤ most → added ≡ additions (in_force (amendments_from L)) → r ≡ unless (leb added (most - p.unit)) 55 → r ≡ unit_refusal p (amendments_from L)
  unit_judged r added most is low sum e =
      e ∙ ap (λ (t : Bool). unless t 55) (same_test p.unit added most low ∙ (λ i. leb (p.unit + sum i) (is i))) ∙ sym unit_is

none : additions (in_force []) ≡ 0
unfolding additions in_force_after
none = refl

-- an accepted unit is small, or nothing is added to it
pub valued_small : (p : Plan) (l : List Amendment) → amendments_refusal p l ≡ 0 → (unit_valued p l ≤ 100000) ⊎ (additions (in_force l) ≡ 0)
valued_small p l e = go l (unit_low p l (list_kept p l e).1)
  where
    most : (t : Bool) → cond t 100000 500 ≤ 100000
    most true = omega arith
    most false = omega arith

    go : (l : List Amendment) → ((l ≡ [] → ⊥) → unit_valued p l ≤ unit_most p.formula) → (unit_valued p l ≤ 100000) ⊎ (additions (in_force l) ≡ 0)
    go [] low = inr none
    go (a ∷ l) low =
        let h = low (λ e. let z : ◌≡◌ {A = ℕ} 0 1 = cc in omega arith) in
        let k = most (eqb p.formula 1) in
        inl (omega arith)
