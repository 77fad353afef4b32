-- What holds of the step holds of the walk: one induction over the lines for each kind of law.
use Prim.Native.Nat.{ℕ, zero, suc, ◌+◌, ◌<◌}
use mathlib.Core.Path.{◌≡◌, refl, sym, ap}
use mathlib.Core.List.{List, [], ◌∷◌}
use mathlib.Core.Bool.{Bool, true, false}
use mathlib.Core.Logic.{◌⊎◌, inl, inr, ⊎_elim, ◌↔◌}
use lib.ListN.{length}
use native.Mathlib.Omega.{arith}
use native.Mathlib.Nat.{add-zero}
use Rattle.rules.specs.Outcome.{Outcome, values, refusal, and_then}
use Rattle.walk.specs.Settled.{settled}
use Rattle.walk.specs.Step.{State, Verdict, wrong, right, verdict_of, judged, step}
use Rattle.walk.specs.Walk.{Case, next_of, closed, folded}
use Rattle.rules.specs.Refusals.{out_of_range, wrong_amendment}
use Rattle.walk.specs.Answers.{RangeNumber, Sooner}
use Rattle.walk.proofs.OutcomeLaws.{refuses, no_values, values_one, passed, then_values, Only, only_weaker, only_then}
use Rattle.walk.proofs.LineLaws.{along, along_cons}

-- ---- a step that goes on
step_on : (ranges : Bool) (k : ℕ) (x : Verdict) {next : State} → judged ranges k x ≡ values next → (r : ℕ) × (x ≡ right r next) × (settled ranges r ≡ 0)
step_on ranges k (wrong r n) e = no_values (passed (settled ranges r) k (refusal n k) e).1
step_on ranges k (right r next) e =
    let p = passed (settled ranges r) k (values next) e in (r, ap (right r) (values_one p.1), p.0)

pub walk_on : (ranges : Bool) (k : ℕ) (state : State) (line ahead : List ℕ) {next : State} → step ranges k state line ahead ≡ values next → (r : ℕ) × (verdict_of state line ahead ≡ right r next) × (settled ranges r ≡ 0)
unfolding step
walk_on ranges k state line ahead e = step_on ranges k (verdict_of state line ahead) e

-- a law of a line whose form is right, by what its range rules say and by the state after it
abbrev pub Right : (ℕ → State → Type 0) → Verdict → Type 0
Right P (wrong r n) = Unit {0}
Right P (right r next) = P r next

-- ---- which refusals there are: those that a state allows which each line keeps
module _ (ranges : Bool) (P : ℕ → ℕ → Type 0) (Holds : ℕ → State → Type 0) (keeps : (k : ℕ) (state : State) (line ahead : List ℕ) → Holds k state → Right (λ r next. Holds (k + 1) next) (verdict_of state line ahead)) (at_line : (k : ℕ) (state : State) (line ahead : List ℕ) → Holds k state → Only P (step ranges k state line ahead)) (at_end : (k : ℕ) (rest : List ℕ) (state : State) → Holds k state → Only P (closed k rest state)) where
  pub along_only : (rest : List ℕ) (k : ℕ) (state : State) (lines : List (List ℕ)) → Holds k state → Only P (along ranges rest k state lines)
  unfolding folded
  along_only rest k state [] h = rw (add-zero k) (at_end k rest state h)
  along_only rest k state (line ∷ lines) h =
      let a = next_of rest lines in
      rw (along_cons ranges rest k state line lines)
      (only_then P (step ranges k state line a) _ (at_line k state line a h)
      (λ next e. let p = walk_on ranges k state line a e in along_only rest (k + 1) next lines (rw p.1 at (keeps k state line a h))))

-- ---- reading and accepting: they answer alike, or accepting refuses by a range sooner
pub record Before (read accepted : Outcome Case) : Type 0 where
  pub number : ℕ
  pub line : ℕ
  pub is : accepted ≡ refusal number line
  pub range : RangeNumber number
  pub later : Only (Sooner number line) read

abbrev pub NoLater : Outcome Case → Outcome Case → Type 0
NoLater read accepted = (read ≡ accepted) ⊎ Before read accepted

-- what a range rule says is a range's number; before a wrong form it says something only of a field, and only where the form is that of 53
abbrev pub InOrder : Verdict → Type 0
InOrder (wrong r n) = (r ≡ 0) ⊎ (RangeNumber r × (r ≡ out_of_range) × (n ≡ wrong_amendment))
InOrder (right r next) = (r ≡ 0) ⊎ RangeNumber r

refusing : {r : ℕ} → (suc r ≡ 0) ⊎ RangeNumber (suc r) → RangeNumber (suc r)
refusing = ⊎_elim (λ e. absurd (omega arith)) (λ n. n)

speaking : {r n : ℕ} → (suc r ≡ 0) ⊎ (RangeNumber (suc r) × (suc r ≡ out_of_range) × (n ≡ wrong_amendment)) → RangeNumber (suc r) × (suc r ≡ out_of_range) × (n ≡ wrong_amendment)
speaking = ⊎_elim (λ e. absurd (omega arith)) (λ n. n)

line_no_later : (k : ℕ) (x : Verdict) (f g : State → Outcome Case) → InOrder x → ((next : State) → Only (λ n l. k < l) (f next)) → ((next : State) → NoLater (f next) (g next)) → NoLater (and_then (judged false k x) f) (and_then (judged true k x) g)
line_no_later k (wrong zero n) f g order low on = inl refl
line_no_later k (wrong (suc r) n) f g order low on =
    let field = speaking order in
    inr (record { number = suc r; line = k; is = ap (λ (o : Outcome State). and_then o g) (refuses r k (refusal n k)); range = field.0; later = inr (refl, field.1, field.2) })
line_no_later k (right zero next) f g order low on = on next
line_no_later k (right (suc r) next) f g order low on =
    inr (record { number = suc r; line = k; is = ap (λ (o : Outcome State). and_then o g) (refuses r k (values next)); range = refusing order; later = only_weaker (λ n l. k < l) (Sooner (suc r) k) (λ n l h. inl h) (f next) (low next) })

module _ (order : (state : State) (line ahead : List ℕ) → InOrder (verdict_of state line ahead)) (low : (rest : List ℕ) (j k : ℕ) (state : State) (lines : List (List ℕ)) → j < k → Only (λ n l. j < l) (along false rest k state lines)) where
  pub along_no_later : (rest : List ℕ) (k : ℕ) (state : State) (lines : List (List ℕ)) → NoLater (along false rest k state lines) (along true rest k state lines)
  unfolding folded step
  along_no_later rest k state [] = inl refl
  along_no_later rest k state (line ∷ lines) =
      rw (along_cons false rest k state line lines, along_cons true rest k state line lines)
      (line_no_later k (verdict_of state line (next_of rest lines)) _ _ (order state line (next_of rest lines))
      (λ next. low rest k (k + 1) next lines (omega arith)) (λ next. along_no_later rest (k + 1) next lines))

-- ---- what each line keeps, the lines keep
module _ (Holds : ℕ → State → Type 0) (keeps : (k : ℕ) (state : State) (line ahead : List ℕ) → Holds k state → Right (λ r next. Holds (k + 1) next) (verdict_of state line ahead)) where
  pub folded_keeps : (ranges : Bool) (rest : List ℕ) (k : ℕ) (state : State) (lines : List (List ℕ)) {last : State} → folded ranges rest k state lines ≡ values last → Holds k state → Holds (k + length lines) last
  unfolding folded
  folded_keeps ranges rest k state [] e h = rw (add-zero k) (rw (values_one e) at h)
  folded_keeps ranges rest k state (line ∷ lines) {last} e h =
      let s = then_values (step ranges k state line (next_of rest lines)) _ e in
      let p = walk_on ranges k state line (next_of rest lines) s.1 in
      let place : k + 1 + length lines ≡ k + suc (length lines) = omega arith in
      rw place at (folded_keeps ranges rest (k + 1) s.0 lines s.2 (rw p.1 at (keeps k state line (next_of rest lines) h)))

-- ---- accepting is reading, where every line keeps its ranges
module _ (Kept : State → List ℕ → Type 0) (law : (state : State) (line ahead : List ℕ) → Right (λ r next. Kept next ahead ↔ (Kept state line × (r ≡ 0))) (verdict_of state line ahead)) where
  pub accepted_kept : (rest : List ℕ) (k : ℕ) (state : State) (lines : List (List ℕ)) {last : State} → folded true rest k state lines ≡ values last → Kept state (next_of rest lines) → (folded false rest k state lines ≡ values last) × Kept last rest
  unfolding folded step
  accepted_kept rest k state [] e h = (e, rw (values_one e) at h)
  accepted_kept rest k state (line ∷ lines) e h =
      let s = then_values (step true k state line (next_of rest lines)) _ e in
      let p = walk_on true k state line (next_of rest lines) s.1 in
      let later = accepted_kept rest (k + 1) s.0 lines s.2 ((rw p.1 at (law state line (next_of rest lines))).1 (h, p.2)) in
      (rw p.1 later.0, later.1)

  pub kept_accepted : (rest : List ℕ) (k : ℕ) (state : State) (lines : List (List ℕ)) {last : State} → folded false rest k state lines ≡ values last → Kept last rest → (folded true rest k state lines ≡ values last) × Kept state (next_of rest lines)
  unfolding folded step
  kept_accepted rest k state [] e h = (e, rw (sym (values_one e)) at h)
  kept_accepted rest k state (line ∷ lines) e h =
      let s = then_values (step false k state line (next_of rest lines)) _ e in
      let p = walk_on false k state line (next_of rest lines) s.1 in
      let later = kept_accepted rest (k + 1) s.0 lines s.2 h in
      let b = (rw p.1 at (law state line (next_of rest lines))).0 later.1 in
      (rw (p.1, b.1) later.0, b.0)
