-- The statements of specs/Answers.antt on which refusals there are.
use Prim.Native.Nat.{ℕ, zero, suc, ◌+◌, ◌<◌}
use mathlib.Core.Path.{◌≡◌, refl, sym, ◌∙◌}
use mathlib.Core.List.{List}
use mathlib.Core.Bool.{Bool, true, false, cond}
use mathlib.Core.Logic.{inl, inr, ⊎_elim}
use lib.ListN.{length}
use lib.Dec.{ltb, eqb, eqb-suc-zero}
use native.Mathlib.Omega.{arith}
use Rattle.fields.proofs.SplitLaws.{off}
use Rattle.rules.specs.Refusals.{cut_off, bytes_after}
use Rattle.rules.specs.Outcome.{Outcome, values, refusal}
use Rattle.walk.specs.Terms.{term_forms}
use Rattle.walk.specs.Lines.{begins}
use Rattle.walk.specs.Step.{State, heading, amending, table, people, ended, Verdict, wrong, right, verdict_of, judged, step}
use Rattle.walk.specs.Walk.{Case, lines_of, rest_of, closed, start, walk_from, walk_of}
use Rattle.walk.specs.Answers.{in_list, in_table, FormOf, term_cut, amend_cut, row_cut, tail_cut, after_end, RangeOf, FormNumber, too_large_number, of_line, LinesOf, Placed, no_line, of_form, of_range, RefusalsArePlaced, ReadingGivesForm, ReadingRefuses, AcceptingRefuses}
use Rattle.walk.proofs.OutcomeLaws.{settled_none, Only}
use Rattle.walk.proofs.LineLaws.{along}
use Rattle.walk.proofs.FoldLaws.{Right, along_only, Before, NoLater, along_no_later}
use Rattle.walk.proofs.StepLaws.{section_of, Sized, Lawful, lawful, line_sized, line_order}

-- ---- one line by its number: a law over the numbers of its section
module _ (ranges : Bool) (P : ℕ → ℕ → Type 0) (k : ℕ) (state : State) (line : List ℕ) (form : (n : ℕ) → FormOf (section_of state line) n → P n k) where
  judged_only : (ahead : List ℕ) → (ranges ≡ true → (n : ℕ) → RangeOf (section_of state line) n → P n k) → (x : Verdict) → Lawful state line ahead x → Only P (judged ranges k x)
  judged_only ahead range (wrong zero n) h = rw (settled_none ranges) (form n h.form)
  judged_only ahead range (wrong (suc r) n) h = pick ranges refl
    where
      field : RangeOf (section_of state line) (suc r)
      field = ⊎_elim (λ e. absurd (omega arith)) (λ f. f.0) h.sooner

      pick : (t : Bool) → ranges ≡ t → Only P (judged t k (wrong (suc r) n))
      pick true on = rw (eqb-suc-zero r) (range on (suc r) field)
      pick false on = form n h.form
  judged_only ahead range (right zero next) h = rw (settled_none ranges) tt
  judged_only ahead range (right (suc r) next) h = pick ranges refl (⊎_elim (λ e. absurd (omega arith)) (λ n. n) h.ranged)
    where
      pick : (t : Bool) → ranges ≡ t → RangeOf (section_of state line) (suc r) → Only P (judged t k (right (suc r) next))
      pick true on n = rw (eqb-suc-zero r) (range on (suc r) n)
      pick false on n = tt

  ended_only : (state : State) (c : Case) (b : Bool) → P bytes_after k → Only P (cond b (values c) (refusal bytes_after k))
  ended_only state c true p = tt
  ended_only state c false p = p

  -- the bytes that are left are the line that is due, as far as it goes
  closed_only : Only P (closed k line state)
  closed_only = go state form
    where
      either : (b : Bool) → FormOf (cond b in_list in_table) cut_off
      either true = amend_cut
      either false = row_cut

      go : (state : State) → ((n : ℕ) → FormOf (section_of state line) n → P n k) → Only P (closed k line state)
      go (heading terms) form = form _ term_cut
      go (amending h) form = form _ (either (begins line))
      go (table h) form = form _ row_cut
      go (people h members) form = form _ tail_cut
      go (ended h members) form = ended_only (ended h members) _ (eqb (length line) 0) (form _ after_end)

  pub step_only : (ranges ≡ true → (n : ℕ) → RangeOf (section_of state line) n → P n k) → (ahead : List ℕ) → Only P (step ranges k state line ahead)
  unfolding step
  step_only range ahead = judged_only ahead range (verdict_of state line ahead) (lawful state line ahead)

-- ---- the whole file: its size, and its lines
short_or_long : (P : Outcome Case → Outcome Case → Type 0) (s : List ℕ) → P (refusal 1 0) (refusal 1 0) → P (walk_from false 1 start s) (walk_from true 1 start s) → P (walk_of false s) (walk_of true s)
unfolding walk_of
short_or_long P s long short = pick (ltb 65536 (length s))
  where
    pick : (b : Bool) → P (cond b (refusal 1 0) (walk_from false 1 start s)) (cond b (refusal 1 0) (walk_from true 1 start s))
    pick true = long
    pick false = short

any_line : (k : ℕ) (state : State) (line ahead : List ℕ) → Unit {0} → Right (λ r next. Unit {0}) (verdict_of state line ahead)
any_line k state line ahead h = go (verdict_of state line ahead)
  where
    go : (x : Verdict) → Right (λ r next. Unit {0}) x
    go (wrong r n) = tt
    go (right r next) = tt

-- reading gives numbers of form
walk_form : (s : List ℕ) → Only (λ n l. FormNumber n) (walk_of false s)
unfolding walk_from
walk_form s =
    let P : ℕ → ℕ → Type 0 = λ n l. FormNumber n in
    let form : (k : ℕ) (state : State) (line : List ℕ) (n : ℕ) → FormOf (section_of state line) n → P n k = λ k state line n f. of_line (section_of state line) f in
    short_or_long (λ read accepted. Only P read) s too_large_number
    (along_only false P (λ k state. Unit {0}) any_line (λ k state line ahead h. step_only false P k state line (form k state line) (λ e. off (sym e)) ahead) (λ k rest state h. closed_only false P k state rest (form k state rest)) (rest_of s) 1 start (lines_of s) tt)

-- each refusal is at a line of its section
line_of : (k : ℕ) (state : State) (line : List ℕ) → Sized k state → LinesOf (section_of state line) k
line_of k (heading terms) line s = (omega (arith, s.0), omega (arith, s.0, s.1))
line_of k (amending h) line s = pick (begins line)
  where
    pick : (b : Bool) → LinesOf (cond b in_list in_table) k
    pick true = (omega (arith, s.0), omega (arith, s.0, s.2))
    pick false = (omega (arith, s.0), omega (arith, s.0, s.2))
line_of k (table h) line s = (omega (arith, s.0), omega (arith, s.0, s.2, s.3))
line_of k (people h members) line s = (omega (arith, s.0), omega (arith, s.0, s.2, s.4))
line_of k (ended h members) line s = (omega (arith, s.0), omega (arith, s.0, s.2, s.4))

pub start_sized : Sized 1 start
unfolding term_forms
start_sized = (omega arith, omega arith)

lines_placed : (ranges : Bool) (s : List ℕ) → Only Placed (walk_from ranges 1 start s)
unfolding walk_from
lines_placed ranges s =
    let form : (k : ℕ) (state : State) (line : List ℕ) → Sized k state → (n : ℕ) → FormOf (section_of state line) n → Placed n k = λ k state line h n f. of_form (section_of state line) f (line_of k state line h) in
    along_only ranges Placed Sized line_sized (λ k state line ahead h. step_only ranges Placed k state line (form k state line h) (λ on n r. of_range (section_of state line) r (line_of k state line h)) ahead) (λ k rest state h. closed_only ranges Placed k state rest (form k state rest h)) (rest_of s) 1 start (lines_of s) start_sized

pub refusals_are_placed : RefusalsArePlaced
unfolding walk_of
refusals_are_placed ranges s n l e = rw e at (pick (ltb 65536 (length s)))
  where
    pick : (b : Bool) → Only Placed (cond b (refusal 1 0) (walk_from ranges 1 start s))
    pick true = no_line
    pick false = lines_placed ranges s

-- none is at a line before the first
pub low : (ranges : Bool) (rest : List ℕ) (j k : ℕ) (state : State) (lines : List (List ℕ)) → j < k → Only (λ n l. j < l) (along ranges rest k state lines)
low ranges rest j k state lines h =
    let P : ℕ → ℕ → Type 0 = λ n l. j < l in
    along_only ranges P (λ k state. j < k) (later_line j) (λ k state line ahead h. step_only ranges P k state line (λ n f. h) (λ on n r. h) ahead) (λ k rest state h. closed_only ranges P k state rest (λ n f. h)) rest k state lines h
  where
    later_line : (j k : ℕ) (state : State) (line ahead : List ℕ) → j < k → Right (λ r next. j < k + 1) (verdict_of state line ahead)
    later_line j k state line ahead h = go (verdict_of state line ahead)
      where
        go : (x : Verdict) → Right (λ r next. j < k + 1) x
        go (wrong r n) = tt
        go (right r next) = omega arith

walk_no_later : (s : List ℕ) → NoLater (walk_of false s) (walk_of true s)
unfolding walk_from
walk_no_later s = short_or_long NoLater s (inl refl) (along_no_later line_order (low false) (rest_of s) 1 start (lines_of s))

pub reading_gives : ReadingGivesForm
reading_gives s n l e = rw e at (walk_form s)

pub reading_refuses : ReadingRefuses
reading_refuses s n l e =
    ⊎_elim
    (λ (same : walk_of false s ≡ walk_of true s). record { number = n; line = l; is = sym same ∙ e; first = inl (refl, refl) })
    (λ (b : Before (walk_of false s) (walk_of true s)). record { number = b.number; line = b.line; is = b.is; first = inr (b.range, rw e at b.later) })
    (walk_no_later s)

pub accepting_refuses : AcceptingRefuses
accepting_refuses s n l e =
    ⊎_elim
    (λ (same : walk_of false s ≡ walk_of true s). inl (same ∙ e))
    (λ (b : Before (walk_of false s) (walk_of true s)). let number : b.number ≡ n = cc (b.is, e) in inr (rw number at b.range))
    (walk_no_later s)
