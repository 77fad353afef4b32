-- The terms: the invariant of the loop that reads them.
use Prim.Native.Nat.{ℕ, ◌+◌, ◌≤◌, ◌<◌}
use mathlib.Core.Path.{◌≡◌, refl, sym, ap, ◌∙◌}
use mathlib.Core.List.{List, [], ◌∷◌, ◌++◌}
use mathlib.Core.Bool.{Bool, true}
use Rattle.std.specs.Prelude.{Result, Ok, Err}
use lib.ListN.{length, get_or, take, drop, set, length-set}
use lib.Seq.{take-suc-set, take_all, length-take-le}
use native.Mathlib.Omega.{arith}
use native.Mathlib.Numerals.{add-one}
use borrow.Author.Tests.{eq-eqb, ne_eqb}
use Rattle.fields.specs.declared.Fault.{Fault}
use Rattle.fields.specs.declared.Fault.TheVariants.{Wrong, Cut}
use Rattle.fields.specs.Split.{upto_of, past_of}
use Rattle.fields.specs.Values.{Values, line_of}
use Rattle.fields.proofs.AnswerLaws.{is_good, is_wrong, is_cut}
use Rattle.rules.specs.declared.refusals.Refusal.{Refusal}
use Rattle.rules.specs.declared.refusals.Refused.{Refused}
use Rattle.rules.specs.Refusals.{number, verdict}
use Rattle.rules.specs.Heading.{term_rules, term_rule}
use Rattle.rules.proofs.RefusalLaws.{numbered}
use Rattle.rules.proofs.TermLaws.{only_before}
use Rattle.rules.specs.Outcome.{refusal}
use Rattle.walk.specs.Settled.{settled}
use Rattle.walk.specs.Terms.{term_forms, term_form, term_refusal}
use Rattle.walk.specs.Step.{heading, right, after_term, term_line, verdict_of}
use Rattle.walk.specs.Walk.{start, walk_from}
use Rattle.walk.specs.Kept.{Each}
use Rattle.walk.proofs.StepLaws.{each_next}
use Rattle.stretches.specs.Refusing.{plan_line, at_line}
use Rattle.stretches.proofs.StretchLaws.{line_cut, line_wrong, line_refused, line_passed, next_rest, next_within, plan_refused, plan_passed, rule_refused, rule_passed}
use Rattle.heading.specs.Stretch.{HeadDone}

-- a form and a rule for each term
as_many : length term_forms ≡ length term_rules
unfolding term_forms
as_many = refl

-- k terms are read, the next line is `line`, and it begins at place `at`
pub record TermsRead (ranges : Bool) (s terms : List ℕ) (line at k : ℕ) : Type 0 where
  pub size : length terms ≡ length term_rules
  pub few : k ≤ length term_rules
  pub place : line ≡ k + 1
  pub within : at ≤ length s
  pub kept : ranges ≡ true → Each term_refusal (take k terms)
  pub way : walk_from ranges 1 start s ≡ walk_from ranges line (after_term (take k terms)) (drop at s)

pub terms_none : (ranges : Bool) (s terms : List ℕ) → length terms ≡ length term_rules → TermsRead ranges s terms 1 0 0
unfolding term_forms
terms_none ranges s terms size =
    record { size = size; few = omega arith; place = refl; within = omega arith; kept = λ on. tt; way = refl }

-- the next line
module _ {ranges : Bool} {s terms : List ℕ} {line at k : ℕ} (t : TermsRead ranges s terms line at k) (more : k < length term_rules) (rest : List ℕ) (cut : rest ≡ drop at s) {r : Result (List ℕ × ℕ) Fault} (given : r ≡ line_of (term_form k) rest) where
  read : r ≡ line_of (term_form k) (drop at s)
  read = rw cut at given

  count : length (take k terms) ≡ k
  count = length-take-le k terms (omega (arith, t.size))

  due : walk_from ranges 1 start s ≡ walk_from ranges line (heading (take k terms)) (drop at s)
  due =
      t.way ∙ simp (ne_eqb (length (take k terms)) (length term_forms) (λ e. omega (arith, count, as_many)))

  form : {x : Values} (ahead : List ℕ) → term_form k (upto_of 10 (drop at s)) ≡ x → verdict_of (heading (take k terms)) (upto_of 10 (drop at s)) ahead ≡ term_line (take k terms) x
  unfolding verdict_of
  form ahead is = rw (count, is)

  cut_off : r ≡ Err Cut → walk_from ranges 1 start s ≡ refusal 2 line
  cut_off is = due ∙ line_cut ranges line (heading (take k terms)) (drop at s) (is_cut (term_form k) (drop at s) read is)

  misread : r ≡ Err Wrong → walk_from ranges 1 start s ≡ refusal 10 line
  misread is =
      let w = is_wrong (term_form k) (drop at s) read is in
      due ∙ line_wrong ranges line (heading (take k terms)) (drop at s) w.0 (form (upto_of 10 (past_of 10 (drop at s))) w.1)

  -- it isn't read
  pub terms_unread : {e : Refused} → Err e ≡ plan_line r line → walk_from ranges 1 start s ≡ refusal (number e.refusal) e.line
  terms_unread is = plan_refused line (λ n l. walk_from ranges 1 start s ≡ refusal n l) r is misread cut_off

  -- it is, and its rule is asked
  module _ {a : List ℕ × ℕ} (is : Ok a ≡ plan_line r line) where
    abbrev v : ℕ
    v = get_or a.0 0 0

    pub terms_place : at + (a.1 + 1) ≤ length s
    terms_place = next_within s at a.1 (is_good (term_form k) (drop at s) read (plan_passed line r is)).line

    module _ (x : Result (Unit {0}) Refusal) (rule : verdict x ≡ settled ranges (term_rule k terms v)) where
      good : verdict_of (heading (take k terms)) (upto_of 10 (drop at s)) (upto_of 10 (past_of 10 (drop at s))) ≡ right (term_refusal (take k terms) v) (after_term (take k terms ++ v ∷ []))
      good = form (upto_of 10 (past_of 10 (drop at s))) (is_good (term_form k) (drop at s) read (plan_passed line r is)).is

      judged : verdict x ≡ settled ranges (term_refusal (take k terms) v)
      judged = rule ∙ rw (count) (ap (settled ranges) (sym (only_before k terms v)))

      pub terms_refused : {e : Refused} → Err e ≡ at_line x line → walk_from ranges 1 start s ≡ refusal (number e.refusal) e.line
      terms_refused {e} told = rule_refused line (λ n l. walk_from ranges 1 start s ≡ refusal n l) x told (λ same. due ∙ line_refused ranges line (heading (take k terms)) (drop at s) (is_good (term_form k) (drop at s) read (plan_passed line r is)).line.has good (sym same ∙ judged) (numbered e.refusal))

      pub terms_next : {u : Unit {0}} → Ok u ≡ at_line x line → TermsRead ranges s (set terms k v) (line + 1) (at + (a.1 + 1)) (k + 1)
      terms_next told =
          let g = (is_good (term_form k) (drop at s) read (plan_passed line r is)).line in
          let none : 0 ≡ settled ranges (term_refusal (take k terms) v) = sym (rule_passed line x told) ∙ judged in
          let stored : take (k + 1) (set terms k v) ≡ take k terms ++ v ∷ [] = rw (add-one k) (take-suc-set terms k v (omega (arith, t.size))) in
          record {
            size = length-set terms k v ∙ t.size;
            few = omega arith;
            place = omega (arith, t.place);
            within = next_within s at a.1 g;
            kept = λ on. rw stored ((each_next term_refusal [] (take k terms) v).1 (t.kept on, sym (none ∙ rw on)));
            way = due ∙ line_passed ranges line (heading (take k terms)) (drop at s) g.has good none refl (next_rest s at a.1 g) ∙ rw stored;
          }

-- all are read
pub terms_done : {ranges : Bool} {s terms : List ℕ} {line at k : ℕ} (t : TermsRead ranges s terms line at k) → length term_rules ≤ k → HeadDone ranges s line at terms
terms_done {ranges} {s} {terms} {line} {at} {k} t all =
    let whole : take k terms ≡ terms = take_all k terms (omega (arith, t.size)) in
    record {
      good = record { size = t.size ∙ sym as_many; kept = λ on. rw (← whole) (t.kept on) };
      place = omega (arith, t.place, t.few, as_many);
      within = t.within;
      way = t.way ∙ rw whole (simp (eq-eqb (length terms) (length term_forms) (t.size ∙ sym as_many)));
    }
