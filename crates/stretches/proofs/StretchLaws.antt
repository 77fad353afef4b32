-- A line of the walk as a loop passes it, once for every kind of line. `s` are the bytes from the line on, `x` what its range rules say
-- where they are settled.
use Prim.Native.Nat.{ℕ, ◌+◌, ◌≤◌}
use mathlib.Core.Path.{◌≡◌, refl, sym, ap, subst, ◌∙◌}
use mathlib.Core.List.{List}
use mathlib.Core.Bool.{Bool, true, false, cond}
use lib.ListN.{length, drop, length-drop}
use lib.Seq.{drop-drop}
use lib.Dec.{eqb}
use native.Mathlib.Omega.{arith}
use borrow.Author.Tests.{eq-eqb, ne_eqb}
use Rattle.std.specs.Prelude.{Result, Ok, Err}
use Rattle.std.specs.Result.{IsErrAnd, OnOk}
use Rattle.std.proofs.lemmas.Result.{err_from_is_err_and}
use Rattle.fields.specs.declared.Fault.{Fault}
use Rattle.fields.specs.declared.Fault.TheVariants.{Wrong, Cut}
use Rattle.fields.specs.Split.{has_of, upto_of, past_of}
use Rattle.fields.proofs.AnswerLaws.{GoodLine}
use Rattle.rules.specs.declared.refusals.Refusal.{Refusal}
use Rattle.rules.specs.declared.refusals.Refusal.TheVariants.{PlanForm, CutOff}
use Rattle.rules.specs.declared.refusals.Refused.{Refused}
use Rattle.rules.specs.Refusals.{number, verdict}
use Rattle.rules.specs.Outcome.{refusal, and_then}
use Rattle.walk.specs.Settled.{settled}
use Rattle.walk.specs.Step.{State, Verdict, wrong, right, verdict_of, step}
use Rattle.walk.specs.Walk.{closed, walk_from}
use Rattle.walk.proofs.OutcomeLaws.{settled_none}
use Rattle.walk.proofs.LineLaws.{from_line, from_end}
use Rattle.stretches.specs.Refusing.{plan_line, at_line}

module _ (ranges : Bool) (k : ℕ) (state : State) (s : List ℕ) where
  pub line_cut : has_of 10 s ≡ false → walk_from ranges k state s ≡ closed k s state
  line_cut none = from_end ranges k state s none

  module _ (has : has_of 10 s ≡ true) where
    abbrev here : Verdict
    here = verdict_of state (upto_of 10 s) (upto_of 10 (past_of 10 s))

    -- wrong in its form, unless a range speaks before that
    pub line_either : {r n : ℕ} → here ≡ wrong r n → walk_from ranges k state s ≡ refusal (cond (eqb (settled ranges r) 0) n (settled ranges r)) k
    unfolding step
    line_either {r} {n} is = from_line ranges k state s has ∙ rw is (pick (eqb (settled ranges r) 0))
      where
        pick : (b : Bool) → and_then (cond b (refusal n k) (refusal (settled ranges r) k)) (λ next. walk_from ranges (k + 1) next (past_of 10 s)) ≡ refusal (cond b n (settled ranges r)) k
        pick true = refl
        pick false = refl

    pub line_wrong : {n : ℕ} → here ≡ wrong 0 n → walk_from ranges k state s ≡ refusal n k
    line_wrong is = line_either is ∙ rw (settled_none ranges)

    module _ {r x : ℕ} {next : State} (is : here ≡ right r next) (rule : x ≡ settled ranges r) where
      pub line_refused : (x ≡ 0 → ⊥) → walk_from ranges k state s ≡ refusal x k
      unfolding step
      line_refused h = from_line ranges k state s has ∙ rw is (simp (sym rule, ne_eqb x 0 h))

      pub line_passed : {rest : List ℕ} → x ≡ 0 → rest ≡ past_of 10 s → walk_from ranges k state s ≡ walk_from ranges (k + 1) next rest
      unfolding step
      line_passed h on = from_line ranges k state s has ∙ rw (is, on) (simp (sym rule, eq-eqb x 0 h))

-- the place after a line that begins at place `at`
module _ (s : List ℕ) (at e : ℕ) (g : GoodLine (drop at s) e) where
  pub next_rest : drop (at + (e + 1)) s ≡ past_of 10 (drop at s)
  next_rest = sym (drop-drop (e + 1) at s) ∙ g.rest

  pub next_within : at + (e + 1) ≤ length s
  next_within = omega (arith, g.within, length-drop at s)

-- ---- what a refusal of a line says
module _ {A : Type 0} (line : ℕ) {e : Refused} (P : (number line : ℕ) → Type 0) where
  -- of a line that wasn't read
  pub plan_refused : (read : Result A Fault) → Err e ≡ plan_line read line → (read ≡ Err Wrong → P 10 line) → (read ≡ Err Cut → P 2 line) → P (number e.refusal) e.line
  plan_refused (Ok a) is form cut = absurd (cc)
  plan_refused (Err Wrong) is form cut = let same : e ≡ record { refusal = PlanForm; line = line } = cc in rw same (form refl)
  plan_refused (Err Cut) is form cut = let same : e ≡ record { refusal = CutOff; line = line } = cc in rw same (cut refl)

  -- of a line that a rule refuses
  pub rule_refused : (judged : Result A Refusal) → Err e ≡ at_line judged line → (verdict judged ≡ number e.refusal → P (number e.refusal) line) → P (number e.refusal) e.line
  rule_refused (Ok a) is refused = absurd (cc)
  rule_refused (Err r) is refused =
      let same : record { refusal = r; line = line } ≡ e = cc in
      let Q : Refused → Type 0 = λ d. P (number e.refusal) d.line in
      subst Q same (refused (ap (λ (d : Refused). number d.refusal) same))

-- what a `?` hands on
pub told : {A : Type 0} (r : Result A Refused) {e : Refused} → IsErrAnd r (λ d. d ≡ e) → r ≡ Err e
told r h = let p = err_from_is_err_and r h in p.1 ∙ ap Err p.2

-- what is handed on of a line that is passed
pub plan_passed : {A : Type 0} (line : ℕ) {a : A} (read : Result A Fault) → Ok a ≡ plan_line read line → read ≡ Ok a
plan_passed line (Ok b) is = cc
plan_passed line (Err Wrong) is = cc
plan_passed line (Err Cut) is = cc

pub rule_passed : {A : Type 0} (line : ℕ) {a : A} (judged : Result A Refusal) → Ok a ≡ at_line judged line → verdict judged ≡ 0
rule_passed line (Ok b) is = refl
rule_passed line (Err r) is = absurd (cc)

-- and what holds of it then
pub on_passed : {A : Type 0} (line : ℕ) {a : A} (judged : Result A Refusal) {P : Type 0} → Ok a ≡ at_line judged line → OnOk judged P → P
on_passed line (Ok b) is known = known
on_passed line (Err r) is known = absurd (cc)
