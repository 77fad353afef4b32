-- A file is accepted exactly when its form is right and its values keep every rule.
use Prim.Native.Nat.{ℕ, zero, suc, ◌+◌, ◌-◌, ◌≤◌, ◌<◌}
use mathlib.Core.Path.{◌≡◌, refl, sym, ap, subst, ◌∙◌}
use mathlib.Core.List.{List, [], ◌∷◌, ◌++◌, append_assoc, append-nil}
use mathlib.Core.Bool.{Bool, true, false, cond}
use mathlib.Core.Logic.{◌↔◌}
use lib.ListN.{length, get_or, take, length-append, get_or-append}
use borrow.Author.Tests.{eqb-true, eq-eqb}
use lib.Seq.{get_or_at}
use lib.Dec.{eqb, ltb}
use native.Mathlib.Omega.{arith}
use native.Mathlib.Nat.{add-zero}
use Rattle.rates.specs.Table.{ages}
use Rattle.plan.specs.declared.Amendment.{Amendment}
use Rattle.plan.specs.declared.Member.{Member}
use Rattle.plan.specs.Benefit.{B}
use Rattle.rules.specs.Rules.{first_among}
use Rattle.plan.specs.Numbers.{terms_of, plan_from}
use Rattle.rules.specs.Heading.{TermRule, term_rules, term_rule, ruled, head_rules}
use Rattle.row_rules.specs.Table.{row_rules, row_numbers, row_of as row_in, weight_before, rows_refusal}
use Rattle.amendments.specs.Judging.{amendment_refusal, unit_refusal, each_refusal}
use Rattle.amendments.proofs.Keeping.{list_kept, kept_list, each_next, next_each}
use Rattle.rule_order.specs.Acceptance.{amended_refusal, member_refusal, person_sum}
use Rattle.rules.proofs.RuleLaws.{AllKept, all_kept, kept_all}
use Rattle.rule_order.proofs.Facts.{line_kept}
use Rattle.rule_order.proofs.ValuedLaws.{amended_kept, kept_amended}
use Rattle.rule_order.proofs.SumLaws.{sum_both, sum_next}
use Rattle.rules.specs.Outcome.{values, refusal}
use Rattle.walk.specs.Terms.{term_forms, term_refusal}
use Rattle.walk.specs.Lines.{due_age, row_refusal}
use Rattle.walk.specs.Step.{Head, plan_in, State, heading, amending, table, people, ended, last_id, sum_in, refusal_after}
use Rattle.walk.specs.Walk.{Case, lines_of, rest_of, next_of, case_of, closed, folded, start, walk_from, walk_of}
use Rattle.walk.specs.Kept.{EachAfter, Each, Kept, nobody, id_before, AcceptedCase}
use Rattle.walk.specs.Answers.{AcceptedKeepsRules, AcceptsWhatKeepsRules}
use Rattle.walk.proofs.OutcomeLaws.{no_values, values_one, then_values}
use Rattle.walk.proofs.FoldLaws.{folded_keeps, accepted_kept, kept_accepted}
use Rattle.walk.proofs.StepLaws.{Sized, line_sized, line_kept as step_kept}
use Rattle.walk.proofs.Theorems.{start_sized}

pub both : (a b : ℕ) → (first_among (a ∷ b ∷ []) ≡ 0) ↔ ((a ≡ 0) × (b ≡ 0))
both a b =
    ((λ e. let k = all_kept (a ∷ b ∷ []) e in (k.0, k.1.0)), (λ k. kept_all (a ∷ b ∷ []) (k.0, (k.1, tt))))

-- ---- the heading: its terms one by one, and the list of its rules
each_judged : (rules : List TermRule) (before t : List ℕ) → ((j : ℕ) → term_rule (length before + j) ≡ get_or rules j (λ b v. 0)) → length t ≤ length rules → EachAfter term_refusal before t ↔ AllKept (ruled rules before t)
each_judged [] before [] same fits = ((λ k. tt), (λ k. tt))
each_judged [] before (v ∷ t) same fits = absurd (omega arith)
each_judged (rule ∷ rules) before [] same fits = ((λ k. tt), (λ k. tt))
each_judged (rule ∷ rules) before (v ∷ t) same fits =
    let long = length-append before (v ∷ []) in
    let next : (j : ℕ) → term_rule (length (before ++ v ∷ []) + j) ≡ get_or rules j (λ b v. 0) = λ j. let place : length (before ++ v ∷ []) + j ≡ length before + suc j = omega (arith, long) in ap term_rule place ∙ same (suc j) in
    let later = each_judged rules (before ++ v ∷ []) t next (omega arith) in
    let here : term_refusal before v ≡ rule before v = ap (λ (r : TermRule). r before v) (sym (ap term_rule (add-zero (length before))) ∙ same 0) in
    ((λ k. (sym here ∙ k.0, later.0 k.1)), (λ k. (here ∙ k.0, later.1 k.1)))

pub terms_back : (t : List ℕ) → length t ≡ length term_forms → terms_of (plan_from t) ≡ t
unfolding term_forms
terms_back [] n = absurd (omega arith)
terms_back (a ∷ []) n = absurd (omega arith)
terms_back (a ∷ b ∷ []) n = absurd (omega arith)
terms_back (a ∷ b ∷ c ∷ []) n = absurd (omega arith)
terms_back (a ∷ b ∷ c ∷ d ∷ []) n = absurd (omega arith)
terms_back (a ∷ b ∷ c ∷ d ∷ e ∷ []) n = absurd (omega arith)
terms_back (a ∷ b ∷ c ∷ d ∷ e ∷ f ∷ []) n = absurd (omega arith)
terms_back (a ∷ b ∷ c ∷ d ∷ e ∷ f ∷ g ∷ []) n = absurd (omega arith)
terms_back (a ∷ b ∷ c ∷ d ∷ e ∷ f ∷ g ∷ h ∷ []) n = absurd (omega arith)
terms_back (a ∷ b ∷ c ∷ d ∷ e ∷ f ∷ g ∷ h ∷ i ∷ []) n = refl
terms_back (a ∷ b ∷ c ∷ d ∷ e ∷ f ∷ g ∷ h ∷ i ∷ j ∷ t) n = absurd (omega arith)

head_kept : (t : List ℕ) → length t ≡ length term_forms → Each term_refusal t ↔ (first_among (head_rules (plan_from t)) ≡ 0)
unfolding term_forms head_rules
head_kept t n =
    let k = each_judged term_rules [] t (λ j. let place : 0 + j ≡ j = omega arith in ap term_rule place) (omega arith) in
    subst (λ (u : List ℕ). Each term_refusal t ↔ (first_among (ruled term_rules [] u) ≡ 0)) (sym (terms_back t n)) ((λ e. kept_all (ruled term_rules [] t) (k.0 e)), (λ e. k.1 (all_kept (ruled term_rules [] t) e)))

-- ---- the amendments
pub amends_kept : (before l : List Amendment) → EachAfter amendment_refusal before l ↔ (each_refusal before l ≡ 0)
unfolding each_refusal
amends_kept before [] = ((λ k. refl), (λ e. tt))
amends_kept before (a ∷ l) =
    let later = amends_kept (before ++ a ∷ []) l in
    ((λ k. next_each before l a k.0 (later.0 k.1)), (λ e. let f = each_next before l a e in (f.0, later.1 f.1)))

-- ---- the rows
weight_same : (before l : List (List ℕ)) → weight_before (before ++ l) (due_age before) ≡ weight_before before (due_age before)
weight_same [] l = refl
weight_same (r ∷ before) l =
    let place : suc (length before) + 15 - 1 - 15 ≡ length before = omega arith in
    simp place (ap (λ (row : List ℕ). cond (ltb 15 (suc (length before) + 15)) (get_or row 3 0) 0) (get_or-append (r ∷ before) l [] (length before) (omega arith)))

rows_kept : (before l : List (List ℕ)) → EachAfter row_refusal before l ↔ (rows_refusal (before ++ l) (due_age before) (length l) ≡ 0)
unfolding rows_refusal
rows_kept before [] = ((λ k. refl), (λ e. tt))
rows_kept before (r ∷ l) =
    let all = before ++ r ∷ l in
    let age = due_age before in
    let place : length before ≡ age - 15 = omega arith in
    let there : get_or all (age - 15) [] ≡ r = get_or_at before r l [] (age - 15) place in
    let here : first_among (row_rules age (weight_before all age) (row_in all age)) ≡ row_refusal before r = λ i. first_among (row_rules age (weight_same before (r ∷ l) i) (row_numbers (there i))) in
    let older : due_age (before ++ r ∷ []) ≡ suc age = omega (arith, length-append before (r ∷ [])) in
    let later = rw (append_assoc, older) at (rows_kept (before ++ r ∷ []) l) in
    let rules = both (first_among (row_rules age (weight_before all age) (row_in all age))) (rows_refusal all (suc age) (length l)) in
    ((λ k. rules.1 (here ∙ k.0, later.0 k.1)), (λ e. let f = rules.0 e in (sym here ∙ f.0, later.1 f.1)))

-- ---- the members
module _ {A : Type 0} (rule : List A → A → ℕ) (d : A) where
  each_at : (before l : List A) → EachAfter rule before l → (j : ℕ) → j < length l → rule (before ++ take j l) (get_or l j d) ≡ 0
  each_at before [] k j h = absurd (omega arith)
  each_at before (a ∷ l) k zero h = rw append-nil k.0
  each_at before (a ∷ l) k (suc j) h = rw append_assoc at (each_at (before ++ a ∷ []) l k.1 j (omega arith))

id_at : (l : List Member) (j : ℕ) → j < length l → last_id (take j l) ≡ id_before l j
id_at l zero h = refl
id_at [] (suc j) h = absurd (omega arith)
id_at (m ∷ l) (suc zero) h = refl
id_at (m ∷ []) (suc (suc j)) h = absurd (omega arith)
id_at (m ∷ n ∷ l) (suc (suc j)) h = id_at (n ∷ l) (suc j) (omega arith)

-- ---- the persons
module _ (h : Head) where
  none : (person : ℕ) → sum_in h person [] ≤ 100000000
  unfolding person_sum
  none person = omega arith

  -- where each line is kept after those before it, each person's sum is
  sums_kept : (before l : List Member) → EachAfter (refusal_after h) before l → ((person : ℕ) → sum_in h person before ≤ 100000000) → (person : ℕ) → sum_in h person (before ++ l) ≤ 100000000
  sums_kept before [] k low person = rw append-nil (low person)
  sums_kept before (m ∷ l) k low person = rw append_assoc at (sums_kept (before ++ m ∷ []) l k.1 next person)
    where
      own : ℕ
      own = B (plan_in h) h.rows m (plan_in h).retire

      pick : (person : ℕ) (b : Bool) → eqb m.person person ≡ b → sum_in h person before + cond b own 0 ≤ 100000000
      pick person true e =
          let same = eqb-true m.person person e in
          subst (λ (x : ℕ). sum_in h x before + own ≤ 100000000) same ((line_kept (plan_in h) h.rows (last_id before) (sum_in h m.person before) m).0 k.0).1
      pick person false e = rw add-zero (low person)

      next : (person : ℕ) → sum_in h person (before ++ m ∷ []) ≤ 100000000
      next person = rw (sum_next (plan_in h) h.rows person before m) (pick person (eqb m.person person) refl)

  -- and where each person's sum is kept, and each line by itself, each line is kept after those before it
  kept_sums : (before l : List Member) → ((j : ℕ) → j < length l → member_refusal (plan_in h) h.rows (last_id (before ++ take j l)) (get_or l j nobody) ≡ 0) → ((person : ℕ) → sum_in h person (before ++ l) ≤ 100000000) → EachAfter (refusal_after h) before l
  unfolding person_sum
  kept_sums before [] own low = tt
  kept_sums before (m ∷ l) own low =
      let p = plan_in h in
      let parts = sum_both p h.rows m.person before (m ∷ l) in
      let mine = eq-eqb m.person m.person refl in
      let sum : sum_in h m.person before + (B p h.rows m p.retire + sum_in h m.person l) ≤ 100000000 = rw (parts, mine) at (low m.person) in (
        (line_kept p h.rows (last_id before) (sum_in h m.person before) m).1 (rw append-nil at (own 0 (omega arith)), omega arith),
        kept_sums (before ++ m ∷ []) l (λ j h. rw append_assoc (own (suc j) (omega arith))) (λ person. rw append_assoc (low person)),
      )

  -- so the members are kept one after the other exactly where each line is kept by itself, and each person's sum
  pub members_kept : (members : List Member) → Each (refusal_after h) members ↔ (((j : ℕ) → j < length members → member_refusal (plan_in h) h.rows (id_before members j) (get_or members j nobody) ≡ 0) × ((person : ℕ) → sum_in h person members ≤ 100000000))
  members_kept members = (
    (λ k.
        ((λ j low. rw (← id_at members j low) ((line_kept _ _ _ _ _).0 (each_at (refusal_after h) nobody [] members k j low)).0), sums_kept [] members k none)),
    (λ a. kept_sums [] members (λ j low. rw (id_at members j low) (a.0 j low)) a.1),
  )

-- ---- a whole case
module _ (t : List ℕ) (l : List Amendment) (rows : List (List ℕ)) where
  abbrev pub HeadKeeps : Type 0
  HeadKeeps =
      Each term_refusal t × Each amendment_refusal l × (unit_refusal (plan_from t) l ≡ 0) × Each row_refusal rows

  pub plan_kept : length t ≡ length term_forms → length rows ≡ ages → (amended_refusal (plan_from t) l rows ≡ 0) ↔ HeadKeeps
  plan_kept all full =
      let p = plan_from t in
      let head = head_kept t all in
      let list = amends_kept [] l in
      let lines = rw full at (rows_kept [] rows) in (
        (λ e. let k = amended_kept p l rows e in let f = list_kept p l k.1 in (head.1 k.0, list.1 f.0, f.1, lines.1 k.2)),
        (λ k. kept_amended p l rows (head.0 k.0) (kept_list p l (list.0 k.1) k.2) (lines.0 k.3)),
      )

module _ (h : Head) (members : List Member) (k : ℕ) (sized : Sized k (ended h members)) where
  case_kept : (rest : List ℕ) → Kept (ended h members) rest ↔ AcceptedCase (case_of h members)
  case_kept rest = (
    (λ k.
        let m = (members_kept h members).0 k.members in
        record {
          plan = (plan_kept h.terms h.amends h.rows sized.1 sized.3).1 (k.terms, k.amends, k.unit, k.rows);
          all_ages = sized.3;
          few = sized.4;
          member = m.0;
          persons = m.1;
        }),
    (λ a.
        let p = (plan_kept h.terms h.amends h.rows sized.1 sized.3).0 a.plan in
        record {
          terms = p.0;
          amends = p.1;
          unit = p.2;
          rows = p.3;
          members = (members_kept h members).1 (a.member, a.persons);
        }),
  )

end_kept : (k : ℕ) (rest : List ℕ) (last : State) (c : Case) → closed k rest last ≡ values c → Sized k last → Kept last rest ↔ AcceptedCase c
end_kept k rest (heading terms) c e sized = no_values e
end_kept k rest (amending h) c e sized = no_values e
end_kept k rest (table h) c e sized = no_values e
end_kept k rest (people h members) c e sized = no_values e
end_kept k rest (ended h members) c e sized = subst (λ (c : Case). Kept (ended h members) rest ↔ AcceptedCase c) (whole (eqb (length rest) 0) e) (case_kept h members k sized rest)
  where
    whole : (b : Bool) → cond b (values (case_of h members)) (refusal 3 k) ≡ values c → case_of h members ≡ c
    whole true e = values_one e
    whole false e = no_values e

-- ---- the walk
module _ (s : List ℕ) (c : Case) where
  -- where a walk gives values: its last state
  pub record Last (ranges : Bool) : Type 0 where
    pub last : State
    pub short : ltb 65536 (length s) ≡ false
    pub fold : folded ranges (rest_of s) 1 start (lines_of s) ≡ values last
    pub whole : closed (1 + length (lines_of s)) (rest_of s) last ≡ values c

  pub last_of : (ranges : Bool) → walk_of ranges s ≡ values c → Last ranges
  unfolding walk_of walk_from
  last_of ranges = pick (ltb 65536 (length s)) refl
    where
      pick : (b : Bool) → ltb 65536 (length s) ≡ b → cond b (refusal 1 0) (walk_from ranges 1 start s) ≡ values c → Last ranges
      pick true h e = no_values e
      pick false h e =
          let f = then_values (folded ranges (rest_of s) 1 start (lines_of s)) _ e in
          record { last = f.0; short = h; fold = f.1; whole = f.2 }

  pub walk_of_lem : (ranges : Bool) → Last ranges → walk_of ranges s ≡ values c
  unfolding walk_of walk_from
  walk_of_lem ranges f = rw (f.short, f.fold) f.whole

  last_kept : (ranges : Bool) (f : Last ranges) → Kept f.last (rest_of s) ↔ AcceptedCase c
  last_kept ranges f =
      end_kept _ _ f.last c f.whole (folded_keeps Sized line_sized ranges (rest_of s) 1 start (lines_of s) f.fold start_sized)

start_kept : (line : List ℕ) → Kept start line
start_kept line = record { terms = tt; amends = tt; unit = refl; rows = tt; members = tt }

pub accepted_keeps : AcceptedKeepsRules
accepted_keeps s c e =
    let f = last_of s c true e in
    let g = accepted_kept Kept step_kept (rest_of s) 1 start (lines_of s) f.fold (start_kept (next_of (rest_of s) (lines_of s))) in
    (walk_of_lem s c false (record { last = f.last; short = f.short; fold = g.0; whole = f.whole }), (last_kept s c true f).0 g.1)

pub accepts_kept : AcceptsWhatKeepsRules
accepts_kept s c e a =
    let f = last_of s c false e in
    let g = kept_accepted Kept step_kept (rest_of s) 1 start (lines_of s) f.fold ((last_kept s c false f).1 a) in
    walk_of_lem s c true (record { last = f.last; short = f.short; fold = g.0; whole = f.whole })
