-- What is known of a plan and of a member that no rule refuses.
use mathlib.Core.Path.{◌≡◌, subst, ◌∙◌}
use mathlib.Core.Logic.{inl, inr, ⊎_elim, ◌↔◌}
use mathlib.Core.Bool.{Bool, true, false, cond, ◌&&◌, ◌||◌}
use mathlib.Core.List.{List, [], ◌∷◌}
use Prim.Native.Nat.{ℕ, zero, suc, ◌+◌, ◌≤◌, ◌<◌}
use native.Mathlib.Nat.{eq-or-lt_of_le}
use native.Mathlib.Omega.{arith}
use borrow.Author.Tests.{leb-true, ltb-true, le-leb, eqb-true, eq-eqb, ne_eqb}
use lib.Dec.{leb, ltb, eqb}
use Rattle.rates.specs.Rates.{death, withdrawal, disability}
use Rattle.rates.specs.Table.{row, weight, Sound}
use Rattle.plan.specs.declared.Plan.{Plan}
use Rattle.plan.specs.declared.Member.{Member}
use Rattle.rules.specs.Rules.{unless, first_among, between}
use Rattle.rules.specs.Heading.{head_rules}
use Rattle.row_rules.specs.Table.{row_rules, row_of, weight_before, rows_refusal}
use Rattle.rule_order.specs.Acceptance.{plan_refusal, field_rules, benefit_rules, member_refusal, line_refusal}
use Rattle.plan.specs.Benefit.{B}
use Rattle.plan.specs.Ranges.{HeadRanges, PlanRanges, InRange, MemberRanges}
use Rattle.plan.proofs.RiseLaws.{never_falls, climbing}
use Rattle.rule_order.specs.Rising.{AcceptedNeverFalls}
use Rattle.rules.proofs.RuleLaws.{first_refuses, first_passes, first_alone, all_kept, kept_all, refusal_of_both, both_refusals, kept, both_true, either_true, between_true}
use Rattle.row_rules.proofs.TableLaws.{weight_passed}

-- ---- the heading
unit_most : (t : Bool) (u : ℕ) → u ≤ cond t 100000 500 → u ≤ 100000
unit_most true u h = h
unit_most false u h = omega arith

pub head_facts : (p : Plan) → first_among (head_rules p) ≡ 0 → HeadRanges p
unfolding head_rules
head_facts p e =
    let k = all_kept (head_rules p) e in
    let unit : p.unit ≤ cond (eqb p.formula 1) 100000 500 = leb-true _ _ (kept (leb p.unit (cond (eqb p.formula 1) 100000 500)) 10 k.1.1.1.1.0) in
    let average = kept (cond (eqb p.formula 3) (between 1 10 p.average) (eqb p.average 0)) 11 k.1.1.1.1.1.0 in
    record {
      interest = leb-true _ _ (kept (leb p.interest 2000) 10 k.0);
      retire = between_true 50 75 p.retire (kept (between 50 75 p.retire) 10 k.1.0);
      pay = ⊎_elim (λ e. inl (eqb-true p.pay 1 e)) (λ e. inr (eqb-true p.pay 12 e)) (either_true (eqb p.pay 1) (eqb p.pay 12) (kept (eqb p.pay 1 || eqb p.pay 12) 10 k.1.1.0));
      formula = between_true 1 3 p.formula (kept (between 1 3 p.formula) 9 k.1.1.1.0);
      flat_unit = unit_most (eqb p.formula 1) p.unit unit;
      pay_unit = λ other. subst (λ (t : Bool). p.unit ≤ cond t 100000 500) (ne_eqb p.formula 1 other) unit;
      average = λ final. between_true 1 10 p.average (subst (λ (t : Bool). cond t (between 1 10 p.average) (eqb p.average 0) ≡ true) (eq-eqb p.formula 3 final) average);
      method = between_true 1 5 p.method (kept (between 1 5 p.method) 9 k.1.1.1.1.1.1.0);
      assets = leb-true _ _ (kept (leb p.assets 99999999999999) 10 k.1.1.1.1.1.1.1.0);
      years = between_true 1 40 p.years (kept (between 1 40 p.years) 10 k.1.1.1.1.1.1.1.1.0);
    }

-- ---- the rows
pub record RowFacts (rows : List (List ℕ)) (k : ℕ) : Type 0 where
  pub sound : Sound (row rows k)
  pub least : 1000 ≤ weight rows k
  pub climbs : weight_before rows k ≤ weight rows k

row_facts : (rows : List (List ℕ)) (k : ℕ) → first_among (row_rules k (weight_before rows k) (row_of rows k)) ≡ 0 → RowFacts rows k
unfolding row_rules
row_facts rows k e =
    let rules = all_kept (row_rules k (weight_before rows k) (row_of rows k)) e in
    let d = leb (death (row rows k)) 1000000 in
    let w = leb (withdrawal (row rows k)) 1000000 in
    let i = leb (disability (row rows k)) 1000000 in
    let rates = both_true d (w && i) (kept (d && (w && i)) 10 rules.0) in
    let others = both_true w i rates.1 in
    let climbs = leb (weight_before rows k) (weight rows k) in
    let both = both_true (between 1000 100000 (weight rows k)) climbs (kept (between 1000 100000 (weight rows k) && climbs) 14 rules.1.1.0) in
    let scale = between_true 1000 100000 (weight rows k) both.0 in
    record {
      sound = record {
        dying = leb-true _ _ rates.0;
        withdrawing = leb-true _ _ others.0;
        disabled = leb-true _ _ others.1;
        weight = scale.1;
      };
      least = scale.0;
      climbs = leb-true (weight_before rows k) (weight rows k) both.1;
    }

rows_facts : (rows : List (List ℕ)) (n k : ℕ) → rows_refusal rows k n ≡ 0 → (j : ℕ) → k ≤ j → j < k + n → RowFacts rows j
unfolding rows_refusal
rows_facts rows zero k e j from to = absurd (omega arith)
rows_facts rows (suc n) k e j from to =
    let k_on = all_kept (first_among (row_rules k (weight_before rows k) (row_of rows k)) ∷ rows_refusal rows (suc k) n ∷ []) e in
    ⊎_elim
    (λ (q : k ≡ j). subst (RowFacts rows) q (row_facts rows k k_on.0))
    (λ (l : k < j). rows_facts rows n (suc k) k_on.1.0 j l (omega arith))
    (eq-or-lt_of_le from)

pub plan_facts : (p : Plan) (rows : List (List ℕ)) → plan_refusal p rows ≡ 0 → PlanRanges p rows
unfolding plan_refusal
plan_facts p rows e =
    let both = all_kept (first_among (head_rules p) ∷ rows_refusal rows 15 106 ∷ []) e in
    let each = rows_facts rows 106 15 both.1.0 in
    record {
      head = head_facts p both.0;
      table = λ k low high. (each k low (omega arith)).sound;
      least = λ k low high. (each k low (omega arith)).least;
      climbs = λ k low high. rw (← (weight_passed rows k (omega arith) low)) at (each (k + 1) (omega arith) (omega arith)).climbs;
    }

-- ---- a member
-- its fields are judged first, and then its benefit
module _ (p : Plan) (rows : List (List ℕ)) (before : ℕ) (m : Member) where
  pub fields_refused : (first_among (field_rules p before m) ≡ 0 → ⊥) → member_refusal p rows before m ≡ first_among (field_rules p before m)
  unfolding member_refusal
  fields_refused h = refusal_of_both (field_rules p before m) (benefit_rules p rows m) ∙ simp (ne_eqb (first_among (field_rules p before m)) 0 h)

  pub fields_kept : first_among (field_rules p before m) ≡ 0 → member_refusal p rows before m ≡ first_among (benefit_rules p rows m)
  unfolding member_refusal
  fields_kept h = refusal_of_both (field_rules p before m) (benefit_rules p rows m) ∙ simp (eq-eqb (first_among (field_rules p before m)) 0 h)

pub range_facts : (p : Plan) (before : ℕ) (m : Member) → first_among (field_rules p before m) ≡ 0 → InRange p m
unfolding field_rules
range_facts p before m e =
    let k = all_kept (field_rules p before m) e in
    let entry = both_true (leb 15 m.entry) (ltb m.entry p.retire) (kept (leb 15 m.entry && ltb m.entry p.retire) 21 k.1.1.0) in
    let age = between_true m.entry p.retire m.age (kept (between m.entry p.retire m.age) 22 k.1.1.1.0) in
    record {
      grown = leb-true _ _ entry.0;
      enters = ltb-true _ _ entry.1;
      past_entry = age.0;
      not_past = age.1;
      paid = leb-true _ _ (kept (leb m.salary 100000000) 23 k.1.1.1.1.0);
    }

-- rule 4.2: nine digits at most; an id is no part of the ranges, since no figure rests on it
pub id_small : (p : Plan) (rows : List (List ℕ)) (before : ℕ) (m : Member) → member_refusal p rows before m ≡ 0 → m.id ≤ 999999999
unfolding member_refusal field_rules
id_small p rows before m e =
    let k = all_kept (field_rules p before m) (both_refusals (field_rules p before m) (benefit_rules p rows m) e).0 in
    (between_true 1 999999999 m.id (both_true (between 1 999999999 m.id) (ltb before m.id) (kept (between 1 999999999 m.id && ltb before m.id) 20 k.0)).0).1

-- rule 4.7
pub person_range : (p : Plan) (rows : List (List ℕ)) (before : ℕ) (m : Member) → member_refusal p rows before m ≡ 0 → (1 ≤ m.person) × (m.person ≤ 999999999)
unfolding member_refusal field_rules
person_range p rows before m e =
    let k = all_kept (field_rules p before m) (both_refusals (field_rules p before m) (benefit_rules p rows m) e).0 in
    between_true 1 999999999 m.person (kept (between 1 999999999 m.person) 27 k.1.0)

-- rule 7.8
pub own_capped : (p : Plan) (rows : List (List ℕ)) (before : ℕ) (m : Member) → member_refusal p rows before m ≡ 0 → leb (B p rows m p.retire) 100000000 ≡ true
unfolding member_refusal benefit_rules
own_capped p rows before m e =
    let k = all_kept (benefit_rules p rows m) (both_refusals (field_rules p before m) (benefit_rules p rows m) e).1 in
    kept (leb (B p rows m p.retire) 100000000) 24 k.0

pub member_facts : (p : Plan) (rows : List (List ℕ)) (before : ℕ) (m : Member) → plan_refusal p rows ≡ 0 → member_refusal p rows before m ≡ 0 → MemberRanges p rows m
unfolding member_refusal
member_facts p rows before m plan e =
    record {
      plan = plan_facts p rows plan;
      in_range = range_facts p before m (both_refusals (field_rules p before m) (benefit_rules p rows m) e).0;
      capped = leb-true _ _ (own_capped p rows before m e);
    }

-- ---- a member line, after the lines before it
-- its own rules are kept, and its person's benefits are within the ceiling; and conversely
module _ (p : Plan) (rows : List (List ℕ)) (before sum : ℕ) (m : Member) where
  pub line_refused : (member_refusal p rows before m ≡ 0 → ⊥) → line_refusal p rows before sum m ≡ member_refusal p rows before m
  unfolding line_refusal
  line_refused h = first_refuses (member_refusal p rows before m) (unless (leb (sum + B p rows m p.retire) 100000000) 29 ∷ []) h

  pub line_summed : member_refusal p rows before m ≡ 0 → line_refusal p rows before sum m ≡ unless (leb (sum + B p rows m p.retire) 100000000) 29
  unfolding line_refusal
  line_summed h =
      let within = unless (leb (sum + B p rows m p.retire) 100000000) 29 in
      first_passes (member_refusal p rows before m) (within ∷ []) h ∙ first_alone within

  pub line_kept : (line_refusal p rows before sum m ≡ 0) ↔ ((member_refusal p rows before m ≡ 0) × (sum + B p rows m p.retire ≤ 100000000))
  unfolding line_refusal
  line_kept =
      let within = leb (sum + B p rows m p.retire) 100000000 in
      let rules = member_refusal p rows before m ∷ unless within 29 ∷ [] in
      ((λ e. let k = all_kept rules e in (k.0, leb-true _ _ (kept within 28 k.1.0))), (λ k. kept_all rules (k.0, (simp (le-leb _ _ k.1), tt))))

-- rule 7.9 for an accepted plan
pub accepted_never_falls : AcceptedNeverFalls
accepted_never_falls p rows m accepted placed =
    let ranges = plan_facts p rows accepted in
    never_falls p rows m ranges.head (climbing ranges) placed
