-- A case file's values rest on its lines, one by one: equal lines give equal terms, rows and members.
use mathlib.Core.Path.{◌≡◌, refl, sym, ap, ◌∙◌}
use mathlib.Core.Bool.{Bool, true, false, cond}
use mathlib.Core.List.{List, [], ◌∷◌, ◌++◌, append_assoc, append-nil}
use Prim.Native.Nat.{ℕ, zero, suc, ◌+◌, ◌-◌, ◌≤◌, ◌<◌}
use native.Mathlib.Nat.{zero-add, suc-add}
use native.Mathlib.Omega.{arith}
use borrow.Author.Tests.{eqb-true, lt-leb, le-leb}
use lib.Dec.{eqb, leb, ltb, eqb-suc-zero}
use lib.ListN.{length, get_or, length-append}
use Rattle.fields.specs.Text.{bytes}
use Rattle.fields.specs.Split.{has_of, upto_of, past_of, starts_of}
use Rattle.fields.specs.Numbers.{amount_of}
use Rattle.fields.specs.Values.{Values, found, misread, keyed_of}
use Rattle.fields.proofs.SplitLaws.{off}
use Rattle.plan.specs.declared.Amendment.{Amendment}
use Rattle.plan.specs.declared.Member.{Member}
use Rattle.rates.specs.Table.{ages}
use Rattle.rules.specs.Refusals.{too_large, wrong_count, wrong_amendment}
use Rattle.plan.specs.Numbers.{amendment_from}
use Rattle.amendments.specs.Judging.{most_amendments, field_refusal}
use Rattle.rules.specs.Outcome.{values, refusal}
use Rattle.walk.specs.Lines.{begins, amend_form, row_form, due_age, Tail, listed, end, surplus, neither, listed_made, most_members, tail_of}
use Rattle.walk.specs.Step.{Head, State, heading, amending, table, people, ended, wrong, right, with_amend, amend_refusal, amend_line, with_row, row_line, tail_line, verdict_of, step}
use Rattle.walk.specs.Walk.{Case, lines_of, rest_of, case_of, closed, folded, start, walk_from, walk_of}
use Rattle.walk.specs.Kept.{nobody}
use Rattle.walk.proofs.OutcomeLaws.{no_values, values_one, then_values}
use Rattle.walk.proofs.LineLaws.{from_line, from_end}
use Rattle.walk.proofs.FoldLaws.{walk_on, Right, folded_keeps}
use Rattle.walk.proofs.StepLaws.{Sized, line_sized, full_none}
use Rattle.walk.proofs.Theorems.{start_sized}
use Rattle.casefile.specs.Answers.{accepting_of}
use Rattle.statements.specs.LinesOf.{lines_past, line_at, lines_before, first_member}

-- ---- the line after some others
pub line_past : (n : ℕ) (s : List ℕ) → line_at (suc n) s ≡ upto_of 10 (lines_past n s)
unfolding line_at
line_past n s = let past : suc n - 1 ≡ n = omega arith in rw past

past_both : (m n : ℕ) (s : List ℕ) → lines_past (m + n) s ≡ lines_past n (lines_past m s)
unfolding lines_past
past_both zero n s = rw (zero-add n)
past_both (suc m) n s = rw (suc-add m n) (past_both m n (past_of 10 s))

-- member j's line
pub line_of_member : (n j : ℕ) (s : List ℕ) → line_at (first_member n + j) s ≡ upto_of 10 (lines_past j (lines_past (lines_before n) s))
line_of_member n j s =
    let next : first_member n + j ≡ suc (lines_before n + j) = omega arith in
    rw next (line_past (lines_before n + j) s ∙ ap (upto_of 10) (past_both (lines_before n) j s))

-- ---- what the state after a line rests on: not on the line after it
next_ahead : (state : State) (line a b : List ℕ) {r : ℕ} {next : State} → verdict_of state line a ≡ right r next → (q : ℕ) × (verdict_of state line b ≡ right q next)
unfolding verdict_of
next_ahead (heading terms) line a b {r} e = (r, e)
next_ahead (amending h) line a b {r} {next} e = pick (begins line) (amend_form line) e
  where
    listed_on : (full : Bool) (v : Amendment) → cond full (wrong (field_refusal v) wrong_amendment) (right (amend_refusal h a v) (amending (with_amend h v))) ≡ right r next → (q : ℕ) × (cond full (wrong (field_refusal v) wrong_amendment) (right (amend_refusal h b v) (amending (with_amend h v))) ≡ right q next)
    listed_on true v e = let z : ◌≡◌ {A = ℕ} 0 1 = cc in absurd (omega arith)
    listed_on false v e = let is : amending (with_amend h v) ≡ next = cc in (amend_refusal h b v, ap (right (amend_refusal h b v)) is)

    on : (x : Values) → amend_line h a x ≡ right r next → (q : ℕ) × (amend_line h b x ≡ right q next)
    on misread e = let z : ◌≡◌ {A = ℕ} 0 1 = cc in absurd (omega arith)
    on (found vs) e = listed_on (leb most_amendments (length h.amends)) (amendment_from vs) e

    pick : (t : Bool) (x : Values) → cond t (amend_line h a x) (row_line h (row_form (due_age h.rows) line)) ≡ right r next → (q : ℕ) × (cond t (amend_line h b x) (row_line h (row_form (due_age h.rows) line)) ≡ right q next)
    pick true x e = on x e
    pick false x e = (r, e)
next_ahead (table h) line a b {r} e = (r, e)
next_ahead (people h l) line a b {r} e = (r, e)
next_ahead (ended h l) line a b {r} e = (r, e)

-- ---- a walk that gives values
-- where a line is due it is there, and the walk goes on after it
record Goes (k : ℕ) (state : State) (s : List ℕ) (c : Case) : Type 0 where
  range : ℕ
  next : State
  line : verdict_of state (upto_of 10 s) [] ≡ right range next
  on : walk_from true (k + 1) next (past_of 10 s) ≡ values c

goes : (k : ℕ) (state : State) (s : List ℕ) (c : Case) → (closed k s state ≡ values c → ⊥) → walk_from true k state s ≡ values c → Goes k state s c
goes k state s c due e = pick (has_of 10 s) refl
  where
    pick : (b : Bool) → has_of 10 s ≡ b → Goes k state s c
    pick true h =
        let a = upto_of 10 (past_of 10 s) in
        let f = then_values (step true k state (upto_of 10 s) a) _ (sym (from_line true k state s h) ∙ e) in
        let p = walk_on true k state (upto_of 10 s) a f.1 in
        let q = next_ahead state (upto_of 10 s) a [] p.1 in
        record { range = q.0; next = f.0; line = q.1; on = f.2 }
    pick false h = absurd (due (sym (from_end true k state s h) ∙ e))

-- after the end nothing is left
done : (k : ℕ) (h : Head) (l : List Member) (s : List ℕ) (c : Case) → walk_from true k (ended h l) s ≡ values c → (s ≡ []) × (c ≡ case_of h l)
unfolding step verdict_of
done k h l s c e = pick (has_of 10 s) refl
  where
    bare : (s : List ℕ) → closed k s (ended h l) ≡ values c → (s ≡ []) × (c ≡ case_of h l)
    bare [] e = (refl, sym (values_one e))
    bare (b ∷ s) e = no_values (rw (eqb-suc-zero (length s)) at e)

    pick : (b : Bool) → has_of 10 s ≡ b → (s ≡ []) × (c ≡ case_of h l)
    pick true h = no_values (sym (from_line true k _ s h) ∙ e)
    pick false h = bare s (sym (from_end true k _ s h) ∙ e)

-- ---- the members
-- a line that begins with member= is no end line
no_end : {A : Type 0} (x : Values) {n : ℕ} → listed_made x ≡ end n → A
no_end (found vs) e = let z : ◌≡◌ {A = ℕ} 0 1 = cc in absurd (omega arith)
no_end misread e = let z : ◌≡◌ {A = ℕ} 0 1 = cc in absurd (omega arith)

-- and where a line is an end, it is one whether or not there is room for a member
record Ends (line : List ℕ) (n : ℕ) : Type 0 where
  begins : starts_of (bytes "member=") line ≡ false
  any : tail_of false line ≡ end n

ends : (full : Bool) (line : List ℕ) (n : ℕ) → tail_of full line ≡ end n → Ends line n
unfolding tail_of
ends full line n e = pick (starts_of (bytes "member=") line) refl full e
  where
    pick : (b : Bool) → starts_of (bytes "member=") line ≡ b → (full : Bool) → tail_of full line ≡ end n → Ends line n
    pick true is true e = let z : ◌≡◌ {A = ℕ} 0 1 = cc (rw is at e) in absurd (omega arith)
    pick true is false e = no_end (keyed_of (bytes "member=") amount_of 4 line) (rw is at e)
    pick false is full e = record { begins = is; any = rw is (rw is at e) }

-- nothing stands after the end
no_lines : (j : ℕ) → upto_of 10 (lines_past j []) ≡ []
unfolding lines_past upto_of past_of
no_lines zero = refl
no_lines (suc j) = no_lines j

-- a case is what stands before its members, the members before these lines, and those of these lines: each that begins with member= is
-- one, and the next is the end
pub record Lined (c : Case) (h : Head) (before : List Member) (s : List ℕ) : Type 0 where
  pub own : List Member
  pub is : c ≡ case_of h (before ++ own)
  pub all : (j : ℕ) → starts_of (bytes "member=") (upto_of 10 (lines_past j s)) ≡ true → j < length own
  pub each : (j : ℕ) → j < length own → tail_of false (upto_of 10 (lines_past j s)) ≡ listed (get_or own j nobody)
  pub counted : tail_of false (upto_of 10 (lines_past (length own) s)) ≡ end (length c.members)

module _ (c : Case) (h : Head) (before : List Member) (s : List ℕ) where
  lined_member : (m : Member) → tail_of false (upto_of 10 s) ≡ listed m → Lined c h (before ++ m ∷ []) (past_of 10 s) → Lined c h before s
  unfolding lines_past
  lined_member m is later = record { own = m ∷ later.own; is = rw append_assoc at later.is; all = all; each = each; counted = later.counted }
    where
      all : (j : ℕ) → starts_of (bytes "member=") (upto_of 10 (lines_past j s)) ≡ true → j < length (m ∷ later.own)
      all zero starts = omega arith
      all (suc j) starts = omega (arith, later.all j starts)

      each : (j : ℕ) → j < length (m ∷ later.own) → tail_of false (upto_of 10 (lines_past j s)) ≡ listed (get_or (m ∷ later.own) j nobody)
      each zero h = is
      each (suc j) h = later.each j (omega arith)

  lined_end : Ends (upto_of 10 s) (length before) → (past_of 10 s ≡ []) × (c ≡ case_of h before) → Lined c h before s
  unfolding lines_past
  lined_end e last = record { own = []; is = rw append-nil last.1; all = all; each = λ j h. absurd (omega (arith, h)); counted = rw last.1 e.any }
    where
      all : (j : ℕ) → starts_of (bytes "member=") (upto_of 10 (lines_past j s)) ≡ true → j < 0
      all zero starts = off (sym starts ∙ e.begins)
      all (suc j) starts = off (sym (rw (last.0, no_lines j) at starts))

  tail_lined : (k : ℕ) (full : Bool) (x : Tail) {r : ℕ} {next : State} → tail_of full (upto_of 10 s) ≡ x → tail_line h before x ≡ right r next → walk_from true (k + 1) next (past_of 10 s) ≡ values c → ((m : Member) → x ≡ listed m → walk_from true (k + 1) (people h (before ++ m ∷ [])) (past_of 10 s) ≡ values c → Lined c h before s) → Lined c h before s
  tail_lined k full (listed m) {r} {next} is line on later =
      let is_next : next ≡ people h (before ++ m ∷ []) = cc in
      later m refl (rw is_next at on)
  tail_lined k full (end n) {r} {next} is line on later = pick (eqb n (length before)) refl line
    where
      pick : (b : Bool) → eqb n (length before) ≡ b → cond b (right 0 (ended h before)) (wrong 0 wrong_count) ≡ right r next → Lined c h before s
      pick true e line =
          let is_next : next ≡ ended h before = cc in
          lined_end (ends full (upto_of 10 s) (length before) (is ∙ ap end (eqb-true n (length before) e))) (done (k + 1) h before (past_of 10 s) c (rw is_next at on))
      pick false e line = let z : ◌≡◌ {A = ℕ} 0 1 = cc in absurd (omega arith)
  tail_lined k full surplus is line on later = let z : ◌≡◌ {A = ℕ} 0 1 = cc in absurd (omega arith)
  tail_lined k full neither is line on later = let z : ◌≡◌ {A = ℕ} 0 1 = cc in absurd (omega arith)

-- from the members on, with room for n more
members_lined : (n k : ℕ) (c : Case) (h : Head) (before : List Member) (s : List ℕ) → length before + n ≡ most_members → walk_from true k (people h before) s ≡ values c → Lined c h before s
unfolding verdict_of
members_lined zero k c h before s room e =
    let g = goes k (people h before) s c (λ e. no_values e) e in
    let full = le-leb most_members (length before) (omega arith) in
    tail_lined c h before s k true (tail_of true (upto_of 10 s)) refl (rw full at g.line) g.on (λ m is on. full_none (upto_of 10 s) m is)
members_lined (suc n) k c h before s room e =
    let g = goes k (people h before) s c (λ e. no_values e) e in
    let full = lt-leb most_members (length before) (omega arith) in
    tail_lined c h before s k false (tail_of false (upto_of 10 s)) refl (rw full at g.line) g.on
    (λ m is on. lined_member c h before s m is (members_lined n (k + 1) c h (before ++ m ∷ []) (past_of 10 s) (omega (arith, length-append before (m ∷ []))) on))

-- ---- two files that agree in the lines before the members
-- the first n lines are the same
abbrev pub Agree : ℕ → List ℕ → List ℕ → Type 0
Agree n s s' = (j : ℕ) → j < n → upto_of 10 (lines_past j s) ≡ upto_of 10 (lines_past j s')

-- they hold the same up to there
pub record Alike (s s' : List ℕ) (c c' : Case) : Type 0 where
  pub head : Head
  pub own : Lined c head [] s
  pub other : Lined c' head [] s'

-- after the amendments, those of the case are those so far
abbrev pub Late : List Amendment → State → Type 0
Late l (heading terms) = ⊥
Late l (amending h) = ⊥
Late l (table h) = h.amends ≡ l
Late l (people h members) = h.amends ≡ l
Late l (ended h members) = h.amends ≡ l

late_row : (l : List Amendment) (h : Head) (b : Bool) → h.amends ≡ l → Late l (cond b (people h []) (table h))
late_row l h true e = e
late_row l h false e = e

late_line : (l : List Amendment) (k : ℕ) (state : State) (line ahead : List ℕ) → Late l state → Right (λ r next. Late l next) (verdict_of state line ahead)
unfolding verdict_of
late_line l k (heading terms) line ahead late = absurd late
late_line l k (amending h) line ahead late = absurd late
late_line l k (table h) line ahead late = pick (row_form (due_age h.rows) line)
  where
    pick : (x : Values) → Right (λ r next. Late l next) (row_line h x)
    pick misread = tt
    pick (found row) = late_row l (with_row h row) (eqb (length (h.rows ++ row ∷ [])) ages) late
late_line l k (people h members) line ahead late = pick (tail_of (leb most_members (length members)) line)
  where
    counted : (b : Bool) → Right (λ r next. Late l next) (cond b (right 0 (ended h members)) (wrong 0 wrong_count))
    counted true = late
    counted false = tt

    pick : (x : Tail) → Right (λ r next. Late l next) (tail_line h members x)
    pick (listed m) = late
    pick (end n) = counted (eqb n (length members))
    pick surplus = tt
    pick neither = tt
late_line l k (ended h members) line ahead late = tt

pub late_case : (l : List Amendment) (k : ℕ) (state : State) (s : List ℕ) (c : Case) → Late l state → walk_from true k state s ≡ values c → c.amends ≡ l
unfolding walk_from
late_case l k state s c late e =
    let f = then_values (folded true (rest_of s) k state (lines_of s)) _ e in
    last _ f.0 (folded_keeps (λ k state. Late l state) (late_line l) true (rest_of s) k state (lines_of s) f.1 late) f.2
  where
    whole : (h : Head) (members : List Member) (k : ℕ) (b : Bool) → cond b (values (case_of h members)) (refusal 3 k) ≡ values c → c.amends ≡ h.amends
    whole h members k true e = ap (λ (c : Case). c.amends) (sym (values_one e))
    whole h members k false e = no_values e

    last : (k : ℕ) (state : State) → Late l state → closed k (rest_of s) state ≡ values c → c.amends ≡ l
    last k (heading terms) late e = absurd late
    last k (amending h) late e = absurd late
    last k (table h) late e = no_values e
    last k (people h members) late e = no_values e
    last k (ended h members) late e = whole h members k (eqb (length (rest_of s)) 0) e ∙ late

-- up to the last row a line is due, in this file and in any other
not_yet : (n k : ℕ) (s : List ℕ) (state : State) (c : Case) → length c.amends ≡ n → Sized k state → k ≤ lines_before n → walk_from true k state s ≡ values c → (s' : List ℕ) (c' : Case) → closed k s' state ≡ values c' → ⊥
not_yet n k s (heading terms) c many sized low on s' c' e = no_values e
not_yet n k s (amending h) c many sized low on s' c' e = no_values e
not_yet n k s (table h) c many sized low on s' c' e = no_values e
not_yet n k s (people h l) c many sized low on s' c' e = no_values e
not_yet n k s (ended h l) c many sized low on s' c' e =
    omega (arith, sized.0, ap length (late_case h.amends k (ended h l) s c refl on))

module _ (n : ℕ) (c c' : Case) (many : length c.amends ≡ n) where
  from_members : (k : ℕ) (state : State) (s s' : List ℕ) → Sized k state → k ≡ lines_before n + 1 → walk_from true k state s ≡ values c → walk_from true k state s' ≡ values c' → Alike s s' c c'
  from_members k (heading terms) s s' sized at e e' = absurd (omega (arith, sized.0, sized.1))
  from_members k (amending h) s s' sized at e e' = absurd (omega (arith, sized.0, sized.2))
  from_members k (table h) s s' sized at e e' =
      absurd (omega (arith, sized.0, sized.3, ap length (late_case h.amends k (table h) s c refl e)))
  from_members k (people h []) s s' sized at e e' = record { head = h; own = members_lined most_members k c h [] s refl e; other = members_lined most_members k c' h [] s' refl e' }
  from_members k (people h (m ∷ l)) s s' sized at e e' =
      absurd (omega (arith, sized.0, ap length (late_case h.amends k (people h (m ∷ l)) s c refl e)))
  from_members k (ended h l) s s' sized at e e' =
      absurd (omega (arith, sized.0, ap length (late_case h.amends k (ended h l) s c refl e)))

  head_same : (m k : ℕ) (state : State) (s s' : List ℕ) → Sized k state → k + m ≡ lines_before n + 1 → Agree m s s' → walk_from true k state s ≡ values c → walk_from true k state s' ≡ values c' → Alike (lines_past m s) (lines_past m s') c c'
  unfolding lines_past
  head_same zero k state s s' sized at same e e' = from_members k state s s' sized (omega arith) e e'
  head_same (suc m) k state s s' sized at same e e' =
      let due = not_yet n k s state c many sized (omega arith) e in
      let g = goes k state s c (due s c) e in
      let g' = goes k state s' c' (due s' c') e' in
      let next : g'.next ≡ g.next = cc (g.line, g'.line, same 0 (omega arith)) in
      head_same m (k + 1) g.next (past_of 10 s) (past_of 10 s') (rw g.line at (line_sized k state (upto_of 10 s) [] sized)) (omega arith) (λ j h. same (suc j) (omega arith)) g.on (rw next at g'.on)

from_start : (s : List ℕ) (c : Case) → accepting_of s ≡ values c → walk_from true 1 start s ≡ values c
unfolding accepting_of walk_of
from_start s c = pick (ltb 65536 (length s))
  where
    pick : (b : Bool) → cond b (refusal too_large 0) (walk_from true 1 start s) ≡ values c → walk_from true 1 start s ≡ values c
    pick true e = no_values e
    pick false e = e

pub files_lined : (n : ℕ) (s s' : List ℕ) (c c' : Case) → length c.amends ≡ n → Agree (lines_before n) s s' → accepting_of s ≡ values c → accepting_of s' ≡ values c' → Alike (lines_past (lines_before n) s) (lines_past (lines_before n) s') c c'
files_lined n s s' c c' many same e e' = head_same n c c' many (lines_before n) 1 start s s' start_sized (omega arith) same (from_start s c e) (from_start s' c' e')
