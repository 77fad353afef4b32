-- The members in turn: the invariant of the loop that judges them.
use Prim.Native.Nat.{ℕ, ◌+◌, ◌≤◌, ◌<◌}
use mathlib.Core.Path.{◌≡◌, refl, sym, ap, ◌∙◌}
use mathlib.Core.List.{List, [], ◌∷◌, ◌++◌, map}
use mathlib.Core.Bool.{cond}
use lib.ListN.{length, get_or, take, drop, length-map, drop_of_length-le, get_or-map}
use lib.Dec.{eqb}
use lib.Seq.{drop-cons, take-suc}
use native.Mathlib.Numerals.{add-one}
use Rattle.plan.specs.declared.Plan.{Plan}
use Rattle.plan.specs.declared.Member.{Member}
use Rattle.plan.specs.Benefit.{B}
use Rattle.rules.specs.Rules.{first_among}
use Rattle.rules.proofs.RuleLaws.{first_refuses, first_passes, first_alone}
use Rattle.rule_order.specs.Acceptance.{person_sum, line_refusal}
use Rattle.rule_order.proofs.SumLaws.{sum_next}
use Rattle.persons.specs.Held.{held}
use Rattle.persons.specs.Search.{Rooted}
use Rattle.plan.specs.Numbers.{member_from}
use Rattle.walk.specs.Step.{last_id}
use Rattle.walk.specs.Kept.{nobody}
use Rattle.walk.proofs.StepLaws.{last_id_lem}
use Rattle.judging.specs.Refusing.{members_refusal}

-- ---- the member at place j after those before it, and then those after it
module _ (p : Plan) (rows : List (List ℕ)) (l : List Member) (j : ℕ) where
  abbrev judged_of : Member → ℕ
  judged_of m = line_refusal p rows (last_id (take j l)) (person_sum p rows m.person (take j l)) m

  abbrev later : ℕ
  later = members_refusal p rows (take (j + 1) l) (drop (j + 1) l)

  in_turn_lem : j < length l → members_refusal p rows (take j l) (drop j l) ≡ first_among (judged_of (get_or l j nobody) ∷ later ∷ [])
  unfolding members_refusal
  in_turn_lem more = rw (add-one j, drop-cons l j nobody more, take-suc l j nobody more)

-- ---- the loop
-- a list as the code holds it, five numbers for each member
abbrev members_in : List (List ℕ) → List Member
members_in = map member_from

-- j members are passed, and what is refused of all is what is refused from here on
pub record Passed (p : Plan) (rows list : List (List ℕ)) (cells : List ℕ) (sums : List (List ℕ)) (before j : ℕ) : Type 0 where
  pub id : before ≡ last_id (take j (members_in list))
  pub rooted : Rooted cells sums j
  pub summed : (person : ℕ) → held sums person ≡ person_sum p rows person (take j (members_in list))
  pub way : members_refusal p rows [] (members_in list) ≡ members_refusal p rows (take j (members_in list)) (drop j (members_in list))

pub passed_none : (p : Plan) (rows list : List (List ℕ)) {cells : List ℕ} {sums : List (List ℕ)} → Rooted cells sums 0 → ((person : ℕ) → held sums person ≡ 0) → Passed p rows list cells sums 0 0
unfolding person_sum
passed_none p rows list rooted nothing = record { id = refl; rooted = rooted; summed = nothing; way = refl }

module _ {p : Plan} {rows list : List (List ℕ)} {cells : List ℕ} {sums : List (List ℕ)} {before j : ℕ} (i : Passed p rows list cells sums before j) where
  pub passed_all : length list ≤ j → 0 ≡ members_refusal p rows [] (members_in list)
  unfolding members_refusal
  passed_all done =
      let none : length (members_in list) ≤ j = rw length-map done in
      sym (i.way ∙ rw (drop_of_length-le (members_in list) none))

  -- the member at place j, and what is refused of it
  module _ (more : j < length list) {m : Member} (is : m ≡ member_from (get_or list j [])) {x : ℕ} (rule : x ≡ line_refusal p rows before (held sums m.person) m) where
    place : j < length (members_in list)
    place = rw length-map more

    there : m ≡ get_or (members_in list) j nobody
    there = is ∙ sym (get_or-map member_from list j [])

    judged : x ≡ judged_of p rows (members_in list) j (get_or (members_in list) j nobody)
    judged =
        rule ∙ (λ k. line_refusal p rows (i.id k) (i.summed m.person k) m) ∙ ap (judged_of p rows (members_in list) j) there

    pub passed_refused : (x ≡ 0 → ⊥) → x ≡ members_refusal p rows [] (members_in list)
    passed_refused some =
        let l = members_in list in
        judged ∙ sym (i.way ∙ in_turn_lem p rows l j place ∙ first_refuses (judged_of p rows l j (get_or l j nobody)) (later p rows l j ∷ []) (λ z. some (judged ∙ z)))

    pub passed_next : {cells' : List ℕ} {sums' : List (List ℕ)} {before' : ℕ} → x ≡ 0 → before' ≡ m.id → Rooted cells' sums' (j + 1) → ((person : ℕ) → held sums' person ≡ held sums person + cond (eqb m.person person) (B p rows m p.retire) 0) → Passed p rows list cells' sums' before' (j + 1)
    passed_next none own grown added =
        let l = members_in list in
        let front : take (j + 1) l ≡ take j l ++ m ∷ [] = rw (add-one j, there) (take-suc l j nobody place) in
        record {
          id = own ∙ rw front (sym (last_id_lem (take j l) m));
          rooted = grown;
          summed = λ person. rw front (added person ∙ rw (i.summed person) (sym (sum_next p rows person (take j l) m)));
          way = i.way ∙ in_turn_lem p rows l j place ∙ first_passes (judged_of p rows l j (get_or l j nobody)) (later p rows l j ∷ []) (sym judged ∙ none) ∙ first_alone (later p rows l j);
        }
