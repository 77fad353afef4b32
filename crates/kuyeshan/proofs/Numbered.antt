-- The statements of specs/Statements.antt: no refusal has the number 0.
use Prim.Native.Nat.{ℕ, zero, suc, ◌<◌}
use mathlib.Core.Path.{◌≡◌}
use mathlib.Core.Bool.{Bool, true, false, cond}
use native.Mathlib.Omega.{arith}
use borrow.Author.Tests.{ne_eqb}
use lib.Dec.{leb, eqb}
use lib.ListN.{length}
use Rattle.amendments.specs.Force.{as_valued}
use Rattle.rule_order.specs.Acceptance.{lone_refusal}
use Rattle.rules.specs.Outcome.{Outcome, values, refusal, and_then, passing}
use Rattle.walk.specs.Answers.{Section, FormOf, term_cut, term_form_lem, amend_cut, amend_form_lem, twenty_first, row_cut, row_form_lem, tail_cut, count, tail_form, surplus, after_end, RangeOf, of_a_term, of_average, of_a_field, of_order, of_rest, of_unit, of_a_rate, of_death, of_weight, of_id, of_person, of_entry, of_age, of_salary, of_benefit, of_sum, Placed, no_line, of_form, of_range}
use Rattle.walk.proofs.Theorems.{refusals_are_placed}
use Rattle.walk.specs.Walk.{valued_plan}
use Rattle.casefile.specs.Answers.{accepting_of}
use Rattle.judging.specs.Refusing.{case_refusal}
use Rattle.written.specs.Written.{written}
use Rattle.costs.specs.declared.Figures.{Figures}
use Rattle.costs.specs.Valuation.{figures, valuation}
use Rattle.report.specs.Lines.{printed}
use Rattle.fitting.specs.Fitting.{fitting}
use Rattle.valuation.specs.Answers.{valued_of}
use Rattle.writer.specs.Files.{file_of}
use Rattle.kuyeshan.specs.Statements.{Numbered, ReadingNumbered, AcceptingNumbered, ValuingNumbered, FittingNumbered, WritingNumbered, MemberNumbered}

form_above : {section : Section} {n : ℕ} → FormOf section n → 0 < n
form_above term_cut = omega arith
form_above term_form_lem = omega arith
form_above amend_cut = omega arith
form_above amend_form_lem = omega arith
form_above twenty_first = omega arith
form_above row_cut = omega arith
form_above row_form_lem = omega arith
form_above tail_cut = omega arith
form_above count = omega arith
form_above tail_form = omega arith
form_above surplus = omega arith
form_above after_end = omega arith

range_above : {section : Section} {n : ℕ} → RangeOf section n → 0 < n
range_above of_a_term = omega arith
range_above of_average = omega arith
range_above of_a_field = omega arith
range_above of_order = omega arith
range_above of_rest = omega arith
range_above of_unit = omega arith
range_above of_a_rate = omega arith
range_above of_death = omega arith
range_above of_weight = omega arith
range_above of_id = omega arith
range_above of_person = omega arith
range_above of_entry = omega arith
range_above of_age = omega arith
range_above of_salary = omega arith
range_above of_benefit = omega arith
range_above of_sum = omega arith

placed_above : {n l : ℕ} → Placed n l → 0 < n
placed_above no_line = omega arith
placed_above (of_form section f at) = form_above f
placed_above (of_range section r at) = range_above r

-- ---- the case file
pub reading_numbered : ReadingNumbered
reading_numbered case number line is = placed_above (refusals_are_placed false case number line is)

pub accepting_numbered : AcceptingNumbered
unfolding accepting_of
accepting_numbered case number line is = placed_above (refusals_are_placed true case number line is)

-- ---- writing
pub fitting_numbered : FittingNumbered
unfolding fitting
fitting_numbered room lines = by (leb (length lines) room)
  where
    by : (b : Bool) → Numbered (cond b (values lines) (refusal 30 0))
    by true number line is = let z : ◌≡◌ {A = ℕ} 0 1 = cc in absurd (omega arith)
    by false number line is = let n : number ≡ 30 = cc in omega arith

then_numbered : {A B : Type 0} (o : Outcome A) (more : A → Outcome B) → Numbered o → ((a : A) → Numbered (more a)) → Numbered (and_then o more)
then_numbered (values a) more first after = after a
then_numbered (refusal k j) more first after = λ number line is. first number line cc

pub valuing_numbered : ValuingNumbered
unfolding valued_of
valuing_numbered room case =
    then_numbered (accepting_of case) _ (accepting_numbered case) (λ c. fitting_numbered room (printed (valued_plan c) c.rows c.members))

passing_numbered : {A : Type 0} (refused line : ℕ) (o : Outcome A) → Numbered o → Numbered (passing refused line o)
passing_numbered zero line o after = after
passing_numbered (suc n) line o after = λ number place is.
    let refused = rw (ne_eqb (suc n) 0 (omega arith)) at is in
    let e : suc n ≡ number = cc in
    omega arith

pub writing_numbered : WritingNumbered
unfolding file_of
writing_numbered room c =
    passing_numbered (case_refusal c) 0 (fitting room (written c)) (fitting_numbered room (written c))

-- ---- plain values
pub member_numbered : MemberNumbered
unfolding valuation
member_numbered p l rows m = by (lone_refusal p l rows m) (figures (as_valued p l) rows m)
  where
    by : (n : ℕ) (f : Figures) (number line : ℕ) → cond (eqb n 0) (values f) (refusal n 0) ≡ refusal number line → 0 < number
    by zero f number line is = let z : ◌≡◌ {A = ℕ} 0 1 = cc in absurd (omega arith)
    by (suc n) f number line is =
        let refused = rw (ne_eqb (suc n) 0 (omega arith)) at is in
        let e : suc n ≡ number = cc in
        omega arith
