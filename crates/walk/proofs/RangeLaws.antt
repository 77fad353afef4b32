-- The range rules, by the numbers that they give: 0 where a rule is kept, and else a number of ranges of its section.
use Prim.Native.Nat.{ℕ, zero, suc, ◌+◌}
use mathlib.Core.Path.{◌≡◌, refl}
use mathlib.Core.List.{List, [], ◌∷◌, ◌++◌}
use mathlib.Core.Bool.{Bool, true, false, cond, ◌&&◌, ◌||◌}
use mathlib.Core.Logic.{◌⊎◌, inl, inr}
use lib.ListN.{length, get_or}
use lib.Dec.{leb, ltb, eqb, eqb-suc-zero}
use native.Mathlib.Omega.{arith}
use Rattle.fields.specs.Text.{bytes}
use Rattle.fields.specs.Split.{same_of}
use Rattle.fields.specs.Values.{Values, found, misread}
use Rattle.plan.specs.declared.Plan.{Plan}
use Rattle.plan.specs.declared.Amendment.{Amendment}
use Rattle.plan.specs.declared.Member.{Member}
use Rattle.rules.specs.Rules.{unless, first_among, between}
use Rattle.plan.specs.Benefit.{B}
use Rattle.rules.specs.Heading.{TermRule, unit_most, term_rules, formula_in, formula_rule, method_rule}
use Rattle.row_rules.specs.Table.{row_rules, row_numbers, weight_before}
use Rattle.amendments.specs.Force.{listed, unit_valued}
use Rattle.amendments.specs.Judging.{most_amendments, last_number, field_refusal, amendment_rules, amendment_refusal, unit_refusal}
use Rattle.rule_order.specs.Acceptance.{field_rules, benefit_rules, member_refusal, line_refusal}
use Rattle.walk.specs.Terms.{formula_word, method_word, term_forms, term_form, term_refusal}
use Rattle.walk.specs.Lines.{begins, due_age, row_refusal}
use Rattle.walk.specs.Step.{Head, with_amend, unit_ahead, amend_refusal}
use Rattle.walk.specs.Answers.{Section, in_heading, in_list, in_table, in_members, RangeOf, of_a_term, of_average, of_a_field, of_order, of_rest, of_unit, of_a_rate, of_death, of_weight, of_id, of_person, of_entry, of_age, of_salary, of_benefit, of_sum}

-- no refusal, or a range's
abbrev pub Ranged : Section → ℕ → Type 0
Ranged section n = (n ≡ 0) ⊎ RangeOf section n

rule_ranged : {section : Section} (b : Bool) {n : ℕ} → RangeOf section n → Ranged section (unless b n)
rule_ranged true r = inl refl
rule_ranged false r = inr r

module _ (section : Section) where
  abbrev AllRanged : List ℕ → Type 0
  AllRanged [] = Unit {0}
  AllRanged (a ∷ later) = Ranged section a × AllRanged later

  all_ranged : (rules : List ℕ) → AllRanged rules → Ranged section (first_among rules)
  all_ranged [] r = inl refl
  all_ranged (zero ∷ later) r = all_ranged later r.1
  all_ranged (suc a ∷ later) r = rw (eqb-suc-zero a) r.0

-- ---- an amendment
module _ (before : List Amendment) (a : Amendment) where
  abbrev fields : Bool
  fields = between 1 999 a.number && (leb a.rests 999 && (leb a.add 100000 && leb a.struck 1))

  -- where a field speaks, it says 11
  pub field_ranged : (field_refusal a ≡ 0) ⊎ (RangeOf in_list (field_refusal a) × (field_refusal a ≡ 11))
  field_ranged = pick fields
    where
      pick : (b : Bool) → (unless b 11 ≡ 0) ⊎ (RangeOf in_list (unless b 11) × (unless b 11 ≡ 11))
      pick true = inl refl
      pick false = inr (of_a_field, refl)

  amendment_ranged : Ranged in_list (amendment_refusal before a)
  unfolding amendment_rules
  amendment_ranged =
      all_ranged in_list (amendment_rules before a) (
        rule_ranged fields of_a_field,
        (
          rule_ranged (ltb (last_number before) a.number && ltb (length before) most_amendments) of_order,
          (rule_ranged (eqb a.rests 0 || listed a.rests before) of_rest, tt),
        ),
      )

unit_ranged : (p : Plan) (l : List Amendment) → Ranged in_list (unit_refusal p l)
unfolding unit_refusal
unit_ranged p [] = inl refl
unit_ranged p (a ∷ l) = rule_ranged (leb (unit_valued p (a ∷ l)) (unit_most p.formula)) of_unit

ahead_ranged : (b : Bool) (n : ℕ) → Ranged in_list n → Ranged in_list (cond b 0 n)
ahead_ranged true n r = inl refl
ahead_ranged false n r = r

pub amend_ranged : (h : Head) (ahead : List ℕ) (a : Amendment) → Ranged in_list (amend_refusal h ahead a)
amend_ranged h ahead a =
    all_ranged in_list (amendment_refusal h.amends a ∷ unit_ahead (with_amend h a) ahead ∷ [])
    (amendment_ranged h.amends a, (ahead_ranged (begins ahead) _ (unit_ranged _ (h.amends ++ a ∷ [])), tt))

-- ---- a row, and a member
pub row_ranged : (before : List (List ℕ)) (row : List ℕ) → Ranged in_table (row_refusal before row)
unfolding row_rules
row_ranged before row =
    let r = row_numbers row in
    all_ranged in_table (row_rules (due_age before) (weight_before before (due_age before)) r) (
      rule_ranged (leb r.death 1000000 && (leb r.withdrawal 1000000 && leb r.disability 1000000)) of_a_rate,
      (
        rule_ranged (cond (eqb (due_age before) 120) (eqb r.death 1000000) true) of_death,
        (rule_ranged (between 1000 100000 r.weight && leb (weight_before before (due_age before)) r.weight) of_weight, tt),
      ),
    )

member_ranged : (p : Plan) (rows : List (List ℕ)) (before : ℕ) (m : Member) → Ranged in_members (member_refusal p rows before m)
unfolding member_refusal field_rules benefit_rules
member_ranged p rows before m =
    all_ranged in_members (field_rules p before m ++ benefit_rules p rows m) (
      rule_ranged (between 1 999999999 m.id && ltb before m.id) of_id,
      (
        rule_ranged (between 1 999999999 m.person) of_person,
        (
          rule_ranged (leb 15 m.entry && ltb m.entry p.retire) of_entry,
          (
            rule_ranged (between m.entry p.retire m.age) of_age,
            (
              rule_ranged (leb m.salary 100000000) of_salary,
              (rule_ranged (leb (B p rows m p.retire) 100000000) of_benefit, tt),
            ),
          ),
        ),
      ),
    )

pub line_ranged : (p : Plan) (rows : List (List ℕ)) (before sum : ℕ) (m : Member) → Ranged in_members (line_refusal p rows before sum m)
unfolding line_refusal
line_ranged p rows before sum m =
    all_ranged in_members (member_refusal p rows before m ∷ unless (leb (sum + B p rows m p.retire) 100000000) 29 ∷ [])
    (member_ranged p rows before m, (rule_ranged (leb (sum + B p rows m p.retire) 100000000) of_sum, tt))

-- ---- a term: the words of the formula and the method are those that their rules allow
abbrev Fits : (List ℕ → Values) → TermRule → Type 0
Fits form rule =
    (line before : List ℕ) (vs : List ℕ) → form line ≡ found vs → Ranged in_heading (rule before (get_or vs 0 0))

one_of : (a : Bool) {x : Values} {code : ℕ} (rule : ℕ → ℕ) (vs : List ℕ) → rule code ≡ 0 → (x ≡ found vs → Ranged in_heading (rule (get_or vs 0 0))) → cond a (found (code ∷ [])) x ≡ found vs → Ranged in_heading (rule (get_or vs 0 0))
one_of true {x} {code} rule vs kept on e =
    let is : code ∷ [] ≡ vs = cc in
    rw (← is) (inl kept)
one_of false rule vs kept on e = on e

none_of : {A : Type 0} {vs : List ℕ} → misread ≡ found vs → A
none_of e = let z : ◌≡◌ {A = ℕ} 0 1 = cc in absurd (omega arith)

formula_fits : Fits formula_word (λ before code. formula_rule code)
unfolding formula_word
formula_fits line before vs =
    one_of (same_of (bytes "formula=flat") line) formula_rule vs refl
    (one_of (same_of (bytes "formula=career") line) formula_rule vs refl
    (one_of (same_of (bytes "formula=final") line) formula_rule vs refl (λ e. none_of e)))

method_fits : Fits method_word (λ before code. method_rule code)
unfolding method_word
method_fits line before vs =
    one_of (same_of (bytes "method=AB") line) method_rule vs refl
    (one_of (same_of (bytes "method=BD") line) method_rule vs refl
    (one_of (same_of (bytes "method=BP") line) method_rule vs refl
    (one_of (same_of (bytes "method=CD") line) method_rule vs refl
    (one_of (same_of (bytes "method=CP") line) method_rule vs refl (λ e. none_of e)))))

abbrev AllFit : List (List ℕ → Values) → List TermRule → Type 0
AllFit [] rules = Unit {0}
AllFit (form ∷ forms) [] = ⊥
AllFit (form ∷ forms) (rule ∷ rules) = Fits form rule × AllFit forms rules

all_fit : AllFit term_forms term_rules
unfolding term_forms
all_fit = (
  (λ line before vs e. rule_ranged (leb (get_or vs 0 0) 2000) of_a_term),
  (
    (λ line before vs e. rule_ranged (between 50 75 (get_or vs 0 0)) of_a_term),
    (
      (λ line before vs e. rule_ranged (eqb (get_or vs 0 0) 1 || eqb (get_or vs 0 0) 12) of_a_term),
      (
        formula_fits,
        (
          (λ line before vs e. rule_ranged (leb (get_or vs 0 0) (unit_most (formula_in before))) of_a_term),
          (
            (λ line before vs e. rule_ranged (cond (eqb (formula_in before) 3) (between 1 10 (get_or vs 0 0)) (eqb (get_or vs 0 0) 0)) of_average),
            (
              method_fits,
              ((λ line before vs e. rule_ranged (leb (get_or vs 0 0) 99999999999999) of_a_term), ((λ line before vs e. rule_ranged (between 1 40 (get_or vs 0 0)) of_a_term), tt)),
            ),
          ),
        ),
      ),
    ),
  ),
)

fit_at : (forms : List (List ℕ → Values)) (rules : List TermRule) → AllFit forms rules → (k : ℕ) → Fits (get_or forms k (λ line. misread)) (get_or rules k (λ before v. 0))
fit_at [] rules all k = λ line before vs e. none_of e
fit_at (form ∷ forms) [] all k = absurd all
fit_at (form ∷ forms) (rule ∷ rules) all zero = all.0
fit_at (form ∷ forms) (rule ∷ rules) all (suc k) = fit_at forms rules all.1 k

pub term_ranged : (before line vs : List ℕ) → term_form (length before) line ≡ found vs → Ranged in_heading (term_refusal before (get_or vs 0 0))
term_ranged before line vs = fit_at term_forms term_rules all_fit (length before) line before vs
