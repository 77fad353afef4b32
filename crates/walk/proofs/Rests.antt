-- A refusal at line l rests on the bytes through the end of line l, and 55 on how the next line begins.
use Prim.Native.Nat.{ℕ, zero, suc, ◌+◌, ◌<◌}
use mathlib.Core.Path.{◌≡◌, refl, sym, ap, ◌∙◌}
use mathlib.Core.List.{List, [], ◌∷◌, ◌++◌, append_assoc, append-nil}
use mathlib.Core.Bool.{Bool, true, false, cond}
use lib.ListN.{length, take, drop_of_length-le}
use lib.Seq.{take_all}
use lib.Dec.{eqb, leb, ltb, eqb-suc-zero}
use native.Mathlib.Omega.{arith}
use native.Mathlib.Numerals.{add-one}
use borrow.Author.Tests.{ltb-false, le-ltb}
use Rattle.fields.specs.Text.{bytes}
use Rattle.fields.specs.Split.{seek_of, has_of, upto_of, past_of, starts_of}
use Rattle.fields.specs.Values.{Values, found as read, misread}
use Rattle.fields.proofs.SplitLaws.{off, and_true_left, and_true_right, lacks_both, lacks_has, has_lacks}
use Rattle.fields.proofs.LineLaws.{upto_all}
use Rattle.rules.specs.Refusals.{high_unit, wrong_amendment}
use Rattle.rules.specs.Rules.{unless, first_among}
use Rattle.plan.specs.declared.Plan.{Plan}
use Rattle.plan.specs.Numbers.{plan_from, amendment_from}
use Rattle.rules.specs.Heading.{unit_most}
use Rattle.amendments.specs.Force.{unit_valued}
use Rattle.amendments.specs.Judging.{most_amendments, field_refusal, amendment_refusal, unit_refusal}
use Rattle.plan.specs.declared.Amendment.{Amendment}
use Rattle.rules.specs.Outcome.{Outcome, values, refusal, and_then, passing}
use Rattle.walk.specs.Settled.{settled}
use Rattle.walk.specs.Lines.{begins, amend_form, due_age, row_form}
use Rattle.walk.specs.Step.{Head, State, heading, amending, table, people, ended, Verdict, wrong, right, with_amend, amend_refusal, amend_line, row_line, verdict_of, judged, step}
use Rattle.walk.specs.Walk.{Case, lines_of, rest_of, closed, start, walk_from, walk_of}
use Rattle.walk.specs.Answers.{through, RestsOnLines}
use Rattle.walk.proofs.OutcomeLaws.{no_values, settled_none}
use Rattle.walk.proofs.LineLaws.{found, later, from_line, from_end}
use Rattle.walk.proofs.Theorems.{low}

-- ---- the first line with its byte 10, before other bytes
record First (s w : List ℕ) : Type 0 where
  has : has_of 10 (take (seek_of 10 s + 1) s ++ w) ≡ true
  line : upto_of 10 (take (seek_of 10 s + 1) s ++ w) ≡ upto_of 10 s
  rest : past_of 10 (take (seek_of 10 s + 1) s ++ w) ≡ w

first : (s w : List ℕ) → has_of 10 s ≡ true → First s w
unfolding has_of
first [] w h = off (sym h)
first (b ∷ s) w h = go (eqb b 10) refl (λ k. first s w k)
  where
    go : (t : Bool) → eqb b 10 ≡ t → (has_of 10 s ≡ true → First s w) → First (b ∷ s) w
    go true is on =
        let f = found b w is in
        let line : take (seek_of 10 (b ∷ s) + 1) (b ∷ s) ≡ b ∷ [] = simp is in
        record { has = rw line f.0; line = rw line (f.1 ∙ sym (found b s is).1); rest = rw line f.2 }
    go false is on =
        let p = on (sym (later b s is).0 ∙ h) in
        let u = take (seek_of 10 s + 1) s in
        let f = later b (u ++ w) is in
        let line : take (seek_of 10 (b ∷ s) + 1) (b ∷ s) ≡ b ∷ u = simp (is, add-one) in
        record {
          has = rw line (f.0 ∙ p.has);
          line = rw line (f.1 ∙ ap (λ (l : List ℕ). b ∷ l) p.line ∙ sym (later b s is).1);
          rest = rw line (f.2 ∙ p.rest);
        }

-- ---- bytes with no byte 10
none_in : (s t : List ℕ) → has_of 10 s ≡ false → has_of 10 t ≡ false → has_of 10 (s ++ t) ≡ false
none_in s t h k = has_lacks 10 (s ++ t) (lacks_both 10 s t (lacks_has 10 s h) (lacks_has 10 t k))

through_none : (j : ℕ) → through j [] ≡ []
unfolding through past_of
through_none zero = refl
through_none (suc j) = through_none j

through_all : (j : ℕ) (s : List ℕ) → has_of 10 s ≡ false → through (suc j) s ≡ s
unfolding through past_of has_of
through_all j s h =
    let long = ltb-false (seek_of 10 s) (length s) h in
    rw (take_all (seek_of 10 s + 1) s (omega arith), drop_of_length-le s {i = seek_of 10 s + 1} (omega arith))
    (ap (λ (l : List ℕ). s ++ l) (through_none j) ∙ append-nil s)

-- ---- what the step makes of the line ahead: `b` and `b'` say whether two of them begin amend=
record Ahead (b b' : Bool) (o o' : Outcome State) : Type 0 where
  pass : (b ≡ true → b' ≡ true) → (next : State) → o ≡ values next → o' ≡ values next
  refuse : (n l : ℕ) → (n ≡ high_unit → b' ≡ false) → o ≡ refusal n l → o' ≡ refusal n l

same : (b b' : Bool) (o : Outcome State) → Ahead b b' o o
same b b' o = record { pass = λ more next e. e; refuse = λ n l other e. e }

-- the unit's rule is one test
unit_test : (p : Plan) (l : List Amendment) → (w : Bool) × (unit_refusal p l ≡ unless w high_unit)
unfolding unit_refusal
unit_test p [] = (true, refl)
unit_test p (a ∷ l) = (leb (unit_valued p (a ∷ l)) (unit_most p.formula), refl)

module _ (k : ℕ) (next : State) where
  abbrev after : (b w : Bool) → Outcome State
  after b w = passing (first_among (0 ∷ cond b 0 (unless w high_unit) ∷ [])) k (values next)

  unit_ahead : (b b' w : Bool) → Ahead b b' (after b w) (after b' w)
  unit_ahead true true w = same true true (values next)
  unit_ahead true false true = same true false (values next)
  unit_ahead true false false = record { pass = λ more last e. off (sym (more refl)); refuse = λ n l other e. no_values (sym e) }
  unit_ahead false true true = same false true (values next)
  unit_ahead false true false = record { pass = λ more last e. no_values e; refuse = λ n l other e. off (other (cc)) }
  unit_ahead false false w = same false false (after false w)

  rules_ahead : (ranges b b' w : Bool) (q : ℕ) → Ahead b b' (passing (settled ranges (first_among (q ∷ cond b 0 (unless w high_unit) ∷ []))) k (values next)) (passing (settled ranges (first_among (q ∷ cond b' 0 (unless w high_unit) ∷ []))) k (values next))
  rules_ahead false b b' w q = same b b' (values next)
  rules_ahead true b b' w zero = unit_ahead b b' w
  rules_ahead true b b' w (suc q) = rw (eqb-suc-zero q) (same b b' _)

module _ (ranges : Bool) (k : ℕ) (line a a' : List ℕ) where
  amend_ahead : (h : Head) (x : Values) → Ahead (begins a) (begins a') (judged ranges k (amend_line h a x)) (judged ranges k (amend_line h a' x))
  amend_ahead h misread = same (begins a) (begins a') _
  amend_ahead h (read vs) = pick (leb most_amendments (length h.amends))
    where
      rules : List ℕ → Verdict
      rules a = right (amend_refusal h a (amendment_from vs)) (amending (with_amend h (amendment_from vs)))

      pick : (b : Bool) → Ahead (begins a) (begins a') (judged ranges k (cond b (wrong (field_refusal (amendment_from vs)) wrong_amendment) (rules a))) (judged ranges k (cond b (wrong (field_refusal (amendment_from vs)) wrong_amendment) (rules a')))
      pick true = same (begins a) (begins a') _
      pick false =
          let u = with_amend h (amendment_from vs) in
          let t = unit_test (plan_from h.terms) u.amends in
          rw t.1 (rules_ahead k (amending u) ranges (begins a) (begins a') t.0 (amendment_refusal h.amends (amendment_from vs)))

  ahead : (state : State) → Ahead (begins a) (begins a') (step ranges k state line a) (step ranges k state line a')
  unfolding verdict_of step
  ahead (heading terms) = same (begins a) (begins a') _
  ahead (amending h) = pick (begins line) (row_line h (row_form (due_age h.rows) line))
    where
      pick : (b : Bool) (x : Verdict) → Ahead (begins a) (begins a') (judged ranges k (cond b (amend_line h a (amend_form line)) x)) (judged ranges k (cond b (amend_line h a' (amend_form line)) x))
      pick true x = amend_ahead h (amend_form line)
      pick false x = same (begins a) (begins a') (judged ranges k x)
  ahead (table h) = same (begins a) (begins a') _
  ahead (people h members) = same (begins a) (begins a') _
  ahead (ended h members) = same (begins a) (begins a') _

-- ---- a line that goes on still begins as it did
starts_more : (key s w : List ℕ) → starts_of key s ≡ true → starts_of key (s ++ w) ≡ true
starts_more [] s w e = refl
starts_more (c ∷ key) [] w e = off (sym e)
starts_more (c ∷ key) (x ∷ s) w e =
    let here = and_true_left (eqb x c) (starts_of key s) e in
    rw (here, starts_more key s w (and_true_right (eqb x c) (starts_of key s) e))

upto_on : (s w : List ℕ) → has_of 10 s ≡ false → upto_of 10 (s ++ w) ≡ s ++ upto_of 10 w
upto_on [] w h = refl
upto_on (b ∷ s) w h = go (eqb b 10) refl (λ e. upto_on s w e)
  where
    go : (t : Bool) → eqb b 10 ≡ t → (has_of 10 s ≡ false → upto_of 10 (s ++ w) ≡ s ++ upto_of 10 w) → upto_of 10 (b ∷ (s ++ w)) ≡ b ∷ (s ++ upto_of 10 w)
    go true is on = off (sym (found b s is).0 ∙ h)
    go false is on = (later b (s ++ w) is).1 ∙ ap (λ (l : List ℕ). b ∷ l) (on (sym (later b s is).0 ∙ h))

still_begins : (j : ℕ) (s t : List ℕ) → begins (upto_of 10 s) ≡ true → begins (upto_of 10 (through (suc j) s ++ t)) ≡ true
unfolding through
still_begins j s t e = pick (has_of 10 s) refl
  where
    pick : (b : Bool) → has_of 10 s ≡ b → begins (upto_of 10 (through (suc j) s ++ t)) ≡ true
    pick true h = rw (append_assoc, (first s (through j (past_of 10 s) ++ t) h).line) e
    pick false h =
        rw (through_all j s h, upto_on s t h) (starts_more (bytes "amend=") s (upto_of 10 t) (rw (upto_all 10 s h) at e))

-- ---- the walk
by_step : {A B G : Type 0} (o : Outcome A) (f : A → Outcome B) {n l : ℕ} → ((a : A) → o ≡ values a → f a ≡ refusal n l → G) → (o ≡ refusal n l → G) → and_then o f ≡ refusal n l → G
by_step (values a) f go stop e = go a refl e
by_step (refusal n l) f go stop e = stop (cc)

line_number : (ranges : Bool) (k : ℕ) (x : Verdict) {n l : ℕ} → judged ranges k x ≡ refusal n l → l ≡ k
line_number ranges k (wrong r m) e = pick (eqb (settled ranges r) 0) e
  where
    pick : (b : Bool) {n l : ℕ} → ◌≡◌ {A = Outcome State} (cond b (refusal m k) (refusal (settled ranges r) k)) (refusal n l) → l ≡ k
    pick true e = cc
    pick false e = cc
line_number ranges k (right r next) e = pick (eqb (settled ranges r) 0) e
  where
    pick : (b : Bool) {n l : ℕ} → cond b (values next) (refusal (settled ranges r) k) ≡ refusal n l → l ≡ k
    pick true e = no_values (sym e)
    pick false e = cc

module _ (ranges : Bool) (t : List ℕ) where
  -- bytes after the end line stay there
  ended_more : (k : ℕ) (state : State) (s : List ℕ) → closed k s state ≡ refusal 3 k → ((line a : List ℕ) → step ranges k state line a ≡ refusal 3 k) → walk_from ranges k state s ≡ refusal 3 k
  ended_more k state s last line = pick (has_of 10 s) refl
    where
      pick : (b : Bool) → has_of 10 s ≡ b → walk_from ranges k state s ≡ refusal 3 k
      pick true h = from_line ranges k state s h ∙ rw (line (upto_of 10 s) (upto_of 10 (past_of 10 s)))
      pick false h = from_end ranges k state s h ∙ last

  closed_more : (state : State) (k : ℕ) (s : List ℕ) {n l : ℕ} → has_of 10 s ≡ false → closed k s state ≡ refusal n l → (n ≡ 2 → has_of 10 t ≡ false) → walk_from ranges k state (s ++ t) ≡ refusal n l
  unfolding verdict_of step
  closed_more (heading u) k s none e unended = from_end ranges k (heading u) (s ++ t) (none_in s t none (unended (cc))) ∙ e
  closed_more (amending h) k s none e unended = from_end ranges k (amending h) (s ++ t) (none_in s t none (unended (cc))) ∙ e
  closed_more (table h) k s none e unended = from_end ranges k (table h) (s ++ t) (none_in s t none (unended (cc))) ∙ e
  closed_more (people h members) k s none e unended =
      from_end ranges k (people h members) (s ++ t) (none_in s t none (unended (cc))) ∙ e
  closed_more (ended h members) k [] none e unended = no_values (sym e)
  closed_more (ended h members) k (b ∷ s) none e unended =
      ended_more k (ended h members) (b ∷ (s ++ t)) (simp (eqb-suc-zero (length (s ++ t)))) (λ line a. rw (settled_none ranges))
      ∙ (simp (eqb-suc-zero (length s)) at e)

  line_low : (k : ℕ) (state : State) (s : List ℕ) {n l : ℕ} → walk_from ranges (k + 1) state s ≡ refusal n l → k < l
  unfolding walk_from
  line_low k state s e = rw e at (low ranges (rest_of s) k (k + 1) state (lines_of s) (omega arith))

  line_rests : (j k : ℕ) (state : State) (s : List ℕ) (n l : ℕ) → let line = upto_of 10 s in let a = upto_of 10 (past_of 10 s) in let on = through j (past_of 10 s) ++ t in (n ≡ 2 → has_of 10 t ≡ false) → ((next : State) → step ranges k state line a ≡ values next → walk_from ranges (k + 1) next (past_of 10 s) ≡ refusal n l → (step ranges k state line (upto_of 10 on) ≡ values next) × (walk_from ranges (k + 1) next on ≡ refusal n l)) → (step ranges k state line a ≡ refusal n l → step ranges k state line (upto_of 10 on) ≡ refusal n l) → walk_from ranges k state s ≡ refusal n l → walk_from ranges k state (through (suc j) s ++ t) ≡ refusal n l
  unfolding through
  line_rests j k state s n l unended go stop e = pick (has_of 10 s) refl
    where
      pick : (b : Bool) → has_of 10 s ≡ b → walk_from ranges k state (through (suc j) s ++ t) ≡ refusal n l
      pick true h =
          let f = first s (through j (past_of 10 s) ++ t) h in
          rw append_assoc
          (from_line ranges k state _ f.has ∙ rw (f.line, f.rest)
          (by_step (step ranges k state (upto_of 10 s) (upto_of 10 (past_of 10 s))) _ (λ next p q. let g = go next p q in rw g.0 g.1) (λ p. rw (stop p)) (sym (from_line ranges k state s h) ∙ e)))
      pick false h = rw (through_all j s h) (closed_more state k s h (sym (from_end ranges k state s h) ∙ e) unended)

  rests : (j k : ℕ) (state : State) (s : List ℕ) (n : ℕ) → (n ≡ 2 → has_of 10 t ≡ false) → (n ≡ high_unit → begins (upto_of 10 t) ≡ false) → walk_from ranges k state s ≡ refusal n (k + j) → walk_from ranges k state (through (suc j) s ++ t) ≡ refusal n (k + j)
  unfolding through step
  rests zero k state s n unended unit =
      let line = upto_of 10 s in
      let a = upto_of 10 (past_of 10 s) in
      line_rests zero k state s n (k + 0) unended (λ next p e. absurd (omega (arith, line_low k next (past_of 10 s) e)))
      ((ahead ranges k line a (upto_of 10 t) state).refuse n (k + 0) unit)
  rests (suc j) k state s n unended unit =
      let line = upto_of 10 s in
      let rest = past_of 10 s in
      let place : k + suc j ≡ k + 1 + j = omega arith in
      line_rests (suc j) k state s n (k + suc j) unended
      (λ next p e. ((ahead ranges k line (upto_of 10 rest) (upto_of 10 (through (suc j) rest ++ t)) state).pass (still_begins j rest t) next p, rw place (rests j (k + 1) next rest n unended unit (rw place at e))))
      (λ e. absurd (omega (arith, line_number ranges k (verdict_of state line (upto_of 10 rest)) e)))

short : (b : Bool) (o : Outcome Case) {n l : ℕ} → cond b (refusal 1 0) o ≡ refusal n l → (n ≡ 1 → ⊥) → o ≡ refusal n l
short true o e other = absurd (other (cc))
short false o e other = e

pub rests_on_lines : RestsOnLines
unfolding walk_of
rests_on_lines ranges s after n l e other unended unit fits =
    simp (le-ltb 65536 (length (through l s ++ after)) fits) (at l (short (ltb 65536 (length s)) (walk_from ranges 1 start s) e other))
  where
    at : (l : ℕ) → walk_from ranges 1 start s ≡ refusal n l → walk_from ranges 1 start (through l s ++ after) ≡ refusal n l
    at zero e = absurd (omega (arith, line_low ranges after 0 start s e))
    at (suc j) e =
        let place : suc j ≡ 1 + j = omega arith in
        rests ranges after j 1 start s n unended unit (e ∙ ap (refusal n) place) ∙ ap (refusal n) (sym place)
