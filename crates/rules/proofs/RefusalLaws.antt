-- The laws of refusals: each has a number, and a `?` hands on the first.
use mathlib.Core.Path.{◌≡◌, refl, sym, ◌∙◌}
use mathlib.Core.Bool.{Bool, true, false, cond}
use mathlib.Core.List.{List, [], ◌∷◌}
use Prim.Native.Nat.{ℕ, ◌^◌, ◌≤◌, ◌<◌}
use borrow.Author.Tests.{ne_eqb}
use native.Mathlib.Omega.{arith}
use Rattle.std.specs.Prelude.{Ok, Err}
use Rattle.std.specs.declared.result.Result.{Result}
use Rattle.std.specs.Result.{IsErrAnd}
use Rattle.std.proofs.lemmas.Result.{err_from_is_err_and}
use Rattle.rules.specs.declared.refusals.Refusal.{Refusal}
use Rattle.rules.specs.declared.refusals.Refusal.TheVariants.{TooLarge, CutOff, BytesAfter, WrongCount, PlanForm, OutOfRange, WrongAverage, WrongLastDeath, WrongWeight, WrongAmendment, UnlistedRest, HighUnit, MemberForm, WrongId, WrongEntry, WrongAge, WrongSalary, HighBenefit, SurplusMember, WrongPerson, HighSum, NoRoom}
use Rattle.rules.specs.declared.refusals.Refused.{Refused}
use Rattle.rules.specs.Outcome.{Outcome, refusal, passing, outcome}
use Rattle.rules.specs.Refusals.{number, verdict}
use Rattle.rules.specs.Rules.{first_among, unless}
use Rattle.rules.proofs.RuleLaws.{first_refuses, first_passes, first_alone}

-- each number has one digit or two, and none is 0
pub in_digits : (r : Refusal) → (1 ≤ number r) × (number r < 100)
in_digits TooLarge = (omega arith, omega arith)
in_digits CutOff = (omega arith, omega arith)
in_digits BytesAfter = (omega arith, omega arith)
in_digits WrongCount = (omega arith, omega arith)
in_digits PlanForm = (omega arith, omega arith)
in_digits OutOfRange = (omega arith, omega arith)
in_digits WrongAverage = (omega arith, omega arith)
in_digits WrongLastDeath = (omega arith, omega arith)
in_digits WrongWeight = (omega arith, omega arith)
in_digits WrongAmendment = (omega arith, omega arith)
in_digits UnlistedRest = (omega arith, omega arith)
in_digits HighUnit = (omega arith, omega arith)
in_digits MemberForm = (omega arith, omega arith)
in_digits WrongId = (omega arith, omega arith)
in_digits WrongEntry = (omega arith, omega arith)
in_digits WrongAge = (omega arith, omega arith)
in_digits WrongSalary = (omega arith, omega arith)
in_digits HighBenefit = (omega arith, omega arith)
in_digits SurplusMember = (omega arith, omega arith)
in_digits WrongPerson = (omega arith, omega arith)
in_digits HighSum = (omega arith, omega arith)
in_digits NoRoom = (omega arith, omega arith)

pub numbered : (r : Refusal) → number r ≡ 0 → ⊥
numbered r none = omega (arith, (in_digits r).0)

pub number_small : (r : Refusal) → number r < 2 ^ 64
number_small r = omega (arith, (in_digits r).1)

-- what a `?` returns
pub handed_on : {A : Type 0} (e : Refusal) (r : Result A Refusal) → IsErrAnd r (λ d. d ≡ e) → verdict r ≡ number e
handed_on e r h = let p = err_from_is_err_and r h in rw (p.1, p.2) refl

-- what `unless` answers
pub told_unless : (kept : Bool) (e : Refusal) (r : Result (Unit {0}) Refusal) → r ≡ cond kept (Ok tt) (Err e) → verdict r ≡ unless kept (number e)
told_unless true e r is = rw is refl
told_unless false e r is = rw is refl

-- ---- rules in order, each with a `?`: one that is kept is passed over, the first that is broken is handed on, and the last is the answer
pub goes_on : {v a : ℕ} (later : List ℕ) → 0 ≡ a → v ≡ first_among later → v ≡ first_among (a ∷ later)
goes_on later z e = e ∙ sym (first_passes _ later (sym z))

pub refuses : {A : Type 0} (e : Refusal) (r : Result A Refusal) {a : ℕ} (later : List ℕ) → IsErrAnd r (λ d. d ≡ e) → number e ≡ a → verdict r ≡ first_among (a ∷ later)
refuses e r {a} later h n = handed_on e r h ∙ n ∙ sym (first_refuses a later (λ z. numbered e (n ∙ z)))

pub is_last : {v a : ℕ} → v ≡ a → v ≡ first_among (a ∷ [])
is_last {a = a} e = e ∙ sym (first_alone a)

-- ---- the same of answers with a line
pub told_at_line : {A : Type 0} (e : Refused) (r : Result A Refused) → IsErrAnd r (λ d. d ≡ e) → outcome r ≡ refusal (number e.refusal) e.line
told_at_line e r h = let p = err_from_is_err_and r h in rw (p.1, p.2) refl

-- the line of plain values is 0
pub told_plain : {A : Type 0} (e : Refusal) (r : Result A Refused) → IsErrAnd r (λ d. (d.refusal ≡ e) × (d.line ≡ 0)) → outcome r ≡ refusal (number e) 0
told_plain e r h = let p = err_from_is_err_and r h in rw (p.1, p.2.0, p.2.1) refl

pub passes_on : {A : Type 0} {n : ℕ} (line : ℕ) (more : Outcome A) → 0 ≡ n → more ≡ passing n line more
passes_on line more z = rw (sym z) refl

pub passes_none : {A : Type 0} (e : Refusal) {n : ℕ} (line : ℕ) (more : Outcome A) → number e ≡ n → refusal (number e) line ≡ passing n line more
passes_none e {n} line more is = rw is (sym (simp (ne_eqb n 0 (λ z. numbered e (is ∙ z)))))
