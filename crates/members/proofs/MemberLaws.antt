-- The members: the invariant of the loop that reads them, and the end.
use Prim.Native.Nat.{ℕ, ◌+◌, ◌-◌, ◌≤◌, ◌<◌}
use mathlib.Core.Path.{◌≡◌, refl, sym, ◌∙◌}
use mathlib.Core.List.{List, [], ◌∷◌, ◌++◌}
use mathlib.Core.Bool.{Bool, true, false, cond}
use Rattle.std.specs.Prelude.{Result, Ok, Err}
use mathlib.Core.Logic.{⊎_elim}
use lib.ListN.{length, drop, set, replicate, length-append, length-drop}
use lib.Dec.{leb, eqb, eqb-suc-zero}
use native.Mathlib.Omega.{arith}
use native.Mathlib.Nat.{eq-or-lt_of_le}
use borrow.Author.Tests.{eq-eqb, ne_eqb, le-leb, lt-leb, eqb-true, eqb-false}
use Rattle.fields.specs.Split.{has_of, upto_of, past_of}
use Rattle.plan.specs.declared.Plan.{Plan}
use Rattle.plan.specs.declared.Member.{Member}
use Rattle.plan.specs.Benefit.{B}
use Rattle.rule_order.specs.Acceptance.{person_sum, line_refusal}
use Rattle.rule_order.proofs.SumLaws.{sum_next}
use Rattle.persons.specs.Held.{held as held-for}
use Rattle.persons.specs.Search.{Rooted}
use Rattle.rules.specs.declared.refusals.Refusal.{Refusal}
use Rattle.rules.specs.declared.refusals.Refusal.TheVariants.{CutOff, BytesAfter, WrongCount, MemberForm, SurplusMember}
use Rattle.rules.specs.declared.refusals.Refused.{Refused}
use Rattle.rules.specs.Refusals.{number, verdict}
use Rattle.rules.proofs.RefusalLaws.{numbered}
use Rattle.rules.specs.Outcome.{values as held-values, refusal}
use Rattle.walk.specs.Settled.{settled}
use Rattle.plan.specs.Numbers.{numbers_of}
use Rattle.walk.specs.Lines.{Tail as Line, listed, end, most_members, tail_of}
use Rattle.walk.specs.Step.{Head, people, ended, wrong, right, last_id, refusal_after, tail_line, verdict_of, step}
use Rattle.walk.specs.Walk.{case_of, walk_from}
use Rattle.walk.proofs.OutcomeLaws.{settled_none}
use Rattle.walk.proofs.LineLaws.{from_line, from_end}
use Rattle.walk.proofs.StepLaws.{last_id_lem, full_none}
use Rattle.stretches.specs.Refusing.{at_line}
use Rattle.stretches.proofs.StretchLaws.{line_cut, line_wrong, line_refused, line_passed, next_rest, next_within, rule_refused, rule_passed}
use Rattle.tails.specs.declared.Tail.{Tail}
use Rattle.tails.specs.declared.Tail.TheVariants.{Listed, End}
use Rattle.tails.specs.declared.TailFault.{TailFault}
use Rattle.tails.specs.declared.TailFault.TheVariants.{Surplus, Neither, Cut}
use Rattle.stretches.specs.Arrays.{filled}
use Rattle.members.specs.Array.{array_of}
use Rattle.tails.specs.Tails.{kind_of}
use Rattle.members.specs.Stretch.{SameHead, MembersAre, form_line, end_count}
use Rattle.tails.proofs.LineLaws.{TailLine, tail_cut, tail_surplus, tail_neither, tail_listed, tail_end, tail_good}
use Rattle.members.proofs.ArrayLaws.{array_next}

-- ---- the room that is left
full_same : (count : ℕ) → count ≤ 1000 → eqb count 1000 ≡ leb most_members count
full_same count few = ⊎_elim
    (λ (e : count ≡ 1000). eq-eqb count 1000 e ∙ sym (le-leb most_members count (omega arith)))
    (λ (l : count < 1000). ne_eqb count 1000 (λ e. omega arith) ∙ sym (lt-leb most_members count l))
    (eq-or-lt_of_le few)

-- ---- after the end line
pub after_end : (ranges : Bool) (k : ℕ) (h : Head) (members : List Member) (s : List ℕ) → walk_from ranges k (ended h members) s ≡ cond (eqb (length s) 0) (held-values (case_of h members)) (refusal 3 k)
unfolding verdict_of step has_of
after_end ranges k h members [] = from_end ranges k (ended h members) [] refl
after_end ranges k h members (b ∷ s) = pick (has_of 10 (b ∷ s)) refl
  where
    pick : (t : Bool) → has_of 10 (b ∷ s) ≡ t → walk_from ranges k (ended h members) (b ∷ s) ≡ cond (eqb (length (b ∷ s)) 0) (held-values (case_of h members)) (refusal 3 k)
    pick true has =
        from_line ranges k (ended h members) (b ∷ s) has ∙ rw (settled_none ranges) (simp (eqb-suc-zero (length s)))
    pick false none = from_end ranges k (ended h members) (b ∷ s) none

-- ---- the loop
-- so many members are read, and the next line begins at place `at`
pub record MembersRead (ranges : Bool) (p : Plan) (rows : List (List ℕ)) (first : ℕ) (s : List ℕ) (array : List (List ℕ)) (cells : List ℕ) (sums : List (List ℕ)) (at count before : ℕ) : Type 0 where
  pub members : List Member
  pub many : length members ≡ count
  pub few : count ≤ 1000
  pub within : at ≤ length s
  pub id : before ≡ last_id members
  pub held : array ≡ array_of members
  pub rooted : Rooted cells sums count
  pub summed : ranges ≡ true → (person : ℕ) → held-for sums person ≡ person_sum p rows person members
  pub way : (h : Head) → SameHead ranges p rows h → walk_from ranges first (people h []) s ≡ walk_from ranges (first + count) (people h members) (drop at s)

pub members_none : (ranges : Bool) (p : Plan) (rows : List (List ℕ)) (first : ℕ) (s : List ℕ) {cells : List ℕ} {sums : List (List ℕ)} → Rooted cells sums 0 → ((person : ℕ) → held-for sums person ≡ 0) → MembersRead ranges p rows first s (replicate most_members (replicate 5 0)) cells sums 0 0 0
unfolding array_of filled person_sum
members_none ranges p rows first s rooted nothing =
    let here : first + 0 ≡ first = omega arith in
    record { members = []; many = refl; few = omega arith; within = omega arith; id = refl; held = refl; rooted = rooted; summed = λ on person. nothing person; way = λ h fits. rw here }

settled_same : (ranges : Bool) {a b : ℕ} → (ranges ≡ true → a ≡ b) → settled ranges a ≡ settled ranges b
settled_same true e = e refl
settled_same false e = refl

module _ {ranges : Bool} {p : Plan} {rows : List (List ℕ)} {first : ℕ} {s : List ℕ} {array : List (List ℕ)} {cells : List ℕ} {sums : List (List ℕ)} {at count before : ℕ} (i : MembersRead ranges p rows first s array cells sums at count before) (rest : List ℕ) (cut : rest ≡ drop at s) {r : Result (Tail × ℕ) TailFault} (given : r ≡ kind_of (eqb count 1000) rest) where
  read : r ≡ kind_of (eqb count 1000) (drop at s)
  read = rw cut at given

  -- it isn't read
  module _ (h : Head) (fits : SameHead ranges p rows h) where
    form : {x : Line} (ahead : List ℕ) → tail_of (eqb count 1000) (upto_of 10 (drop at s)) ≡ x → verdict_of (people h i.members) (upto_of 10 (drop at s)) ahead ≡ tail_line h i.members x
    unfolding verdict_of
    form ahead is = rw (i.many, ← full_same count i.few, is)

    cut_off : r ≡ Err Cut → walk_from ranges first (people h []) s ≡ refusal 2 (first + count)
    cut_off is =
        i.way h fits ∙ line_cut ranges (first + count) (people h i.members) (drop at s) (tail_cut (eqb count 1000) (drop at s) read is)

    surplus : r ≡ Err Surplus → walk_from ranges first (people h []) s ≡ refusal 27 (first + count)
    surplus is =
        let w = tail_surplus (eqb count 1000) (drop at s) read is in
        i.way h fits ∙ line_wrong ranges (first + count) (people h i.members) (drop at s) w.0 (form (upto_of 10 (past_of 10 (drop at s))) w.1)

    neither : r ≡ Err Neither → walk_from ranges first (people h []) s ≡ refusal 20 (first + count)
    neither is =
        let w = tail_neither (eqb count 1000) (drop at s) read is in
        i.way h fits ∙ line_wrong ranges (first + count) (people h i.members) (drop at s) w.0 (form (upto_of 10 (past_of 10 (drop at s))) w.1)

    pub members_unread : {e : Refused} → Err e ≡ form_line r (first + count) → walk_from ranges first (people h []) s ≡ refusal (number e.refusal) e.line
    members_unread {e} told = pick r told surplus neither cut_off
      where
        pick : (x : Result (Tail × ℕ) TailFault) → Err e ≡ form_line x (first + count) → (x ≡ Err Surplus → walk_from ranges first (people h []) s ≡ refusal 27 (first + count)) → (x ≡ Err Neither → walk_from ranges first (people h []) s ≡ refusal 20 (first + count)) → (x ≡ Err Cut → walk_from ranges first (people h []) s ≡ refusal 2 (first + count)) → walk_from ranges first (people h []) s ≡ refusal (number e.refusal) e.line
        pick (Ok a) q many other off = absurd (cc)
        pick (Err Surplus) q many other off = let same : e ≡ record { refusal = SurplusMember; line = first + count } = cc in rw same (many refl)
        pick (Err Neither) q many other off = let same : e ≡ record { refusal = MemberForm; line = first + count } = cc in rw same (other refl)
        pick (Err Cut) q many other off = let same : e ≡ record { refusal = CutOff; line = first + count } = cc in rw same (off refl)

  -- it is
  module _ {t : Tail} {e : ℕ} (is : Ok (t, e) ≡ form_line r (first + count)) where
    passed : r ≡ Ok (t, e)
    passed = pick r is
      where
        pick : (x : Result (Tail × ℕ) TailFault) → Ok (t, e) ≡ form_line x (first + count) → x ≡ Ok (t, e)
        pick (Ok a) q = cc
        pick (Err Surplus) q = cc
        pick (Err Neither) q = cc
        pick (Err Cut) q = cc

    pub members_place : at + (e + 1) ≤ length s
    members_place = next_within s at e (tail_good (eqb count 1000) (drop at s) read passed)

    -- ---- the end
    module _ {n : ℕ} (last : t ≡ End n) where
      ending : TailLine (eqb count 1000) (drop at s) (end n) e
      ending = tail_end (eqb count 1000) (drop at s) read (rw last at passed)

      module _ (h : Head) (fits : SameHead ranges p rows h) where
        tail : verdict_of (people h i.members) (upto_of 10 (drop at s)) (upto_of 10 (past_of 10 (drop at s))) ≡ cond (eqb n count) (right 0 (ended h i.members)) (wrong 0 4)
        tail = form h fits (upto_of 10 (past_of 10 (drop at s))) ending.is ∙ rw i.many

        -- another count
        miscounted : (n ≡ count → ⊥) → walk_from ranges first (people h []) s ≡ refusal 4 (first + count)
        miscounted other =
            i.way h fits ∙ line_wrong ranges (first + count) (people h i.members) (drop at s) ending.good.has (tail ∙ rw (ne_eqb n count other))

        -- the count is right: what follows decides
        counted : n ≡ count → walk_from ranges first (people h []) s ≡ cond (eqb (length s - (at + (e + 1))) 0) (held-values (case_of h i.members)) (refusal 3 (first + count + 1))
        counted same =
            let g = ending.good in
            i.way h fits
            ∙ line_passed ranges (first + count) (people h i.members) (drop at s) g.has (tail ∙ rw (eq-eqb n count same)) (sym (settled_none ranges)) refl (next_rest s at e g)
            ∙ after_end ranges (first + count + 1) h i.members (drop (at + (e + 1)) s) ∙ rw (length-drop (at + (e + 1)) s)

      pub members_end : {c : Result ℕ Refused} → c ≡ end_count n count (first + count) (length s - (at + (e + 1))) → (h : Head) → SameHead ranges p rows h → MembersAre ranges h first s c array
      unfolding MembersAre
      members_end {c} answer h fits = rw answer (go (eqb n count) refl (eqb (length s - (at + (e + 1))) 0) refl)
        where
          go : (b : Bool) → eqb n count ≡ b → (d : Bool) → eqb (length s - (at + (e + 1))) 0 ≡ d → MembersAre ranges h first s (cond b (cond d (Ok count) (Err (record { refusal = BytesAfter; line = first + count + 1 }))) (Err (record { refusal = WrongCount; line = first + count }))) array
          go true b true d =
              record { members = i.members; many = sym i.many; held = i.held; way = counted h fits (eqb-true _ _ b) ∙ rw d }
          go true b false d = counted h fits (eqb-true _ _ b) ∙ rw d
          go false b d z = miscounted h fits (eqb-false _ _ b)

    -- ---- a member
    module _ {m : Member} (one : t ≡ Listed m) where
      listing : TailLine (eqb count 1000) (drop at s) (listed m) e
      listing = tail_listed (eqb count 1000) (drop at s) read (rw one at passed)

      pub room : count < 1000
      room = ⊎_elim (λ (full : count ≡ 1000). full_none (upto_of 10 (drop at s)) m (rw (eq-eqb count 1000 full) at listing.is)) (λ l. l) (eq-or-lt_of_le i.few)

      module _ (x : Result (Unit {0}) Refusal) (rule : verdict x ≡ settled ranges (line_refusal p rows before (held-for sums m.person) m)) where
        good : (h : Head) → SameHead ranges p rows h → verdict_of (people h i.members) (upto_of 10 (drop at s)) (upto_of 10 (past_of 10 (drop at s))) ≡ right (refusal_after h i.members m) (people h (i.members ++ m ∷ []))
        good h fits = form h fits (upto_of 10 (past_of 10 (drop at s))) listing.is

        judged : (h : Head) → SameHead ranges p rows h → verdict x ≡ settled ranges (refusal_after h i.members m)
        judged h fits = rule ∙ settled_same ranges (λ on. let f = fits on in let g = i.summed on m.person in rw (i.id, g, f.0, f.1))

        pub members_refused : (h : Head) → SameHead ranges p rows h → {d : Refused} → Err d ≡ at_line x (first + count) → walk_from ranges first (people h []) s ≡ refusal (number d.refusal) d.line
        members_refused h fits {d} told =
            rule_refused (first + count) (λ n l. walk_from ranges first (people h []) s ≡ refusal n l) x told (λ same. i.way h fits ∙ line_refused ranges (first + count) (people h i.members) (drop at s) listing.good.has (good h fits) (sym same ∙ judged h fits) (numbered d.refusal))

        pub members_next : {u : Unit {0}} → Ok u ≡ at_line x (first + count) → {array' : List (List ℕ)} {cells' : List ℕ} {sums' : List (List ℕ)} → array' ≡ set array count (numbers_of m) → Rooted cells' sums' (count + 1) → (ranges ≡ true → (person : ℕ) → held-for sums' person ≡ held-for sums person + cond (eqb m.person person) (B p rows m p.retire) 0) → MembersRead ranges p rows first s array' cells' sums' (at + (e + 1)) (count + 1) m.id
        members_next told put grown more =
            let g = listing.good in
            let none = rule_passed (first + count) x told in
            let long = length-append i.members (m ∷ []) in
            let place : first + count + 1 ≡ first + (count + 1) = omega arith in
            record {
              members = i.members ++ m ∷ [];
              many = omega (arith, long, i.many);
              few = omega (arith, room);
              within = next_within s at e g;
              id = sym (last_id_lem i.members m);
              held = put ∙ rw i.held (array_next i.members m i.many);
              rooted = grown;
              summed = λ on person. more on person ∙ rw (i.summed on person) (sym (sum_next p rows person i.members m));
              way = λ h fits. rw (← place) (i.way h fits ∙ line_passed ranges (first + count) (people h i.members) (drop at s) g.has (good h fits) (judged h fits) none (next_rest s at e g));
            }
