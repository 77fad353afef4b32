-- What is written is read back: the walk over a case's lines goes through its values, and through no others.
use mathlib.Core.Path.{◌≡◌, refl, sym, ap, subst, ◌∙◌}
use mathlib.Core.Bool.{Bool, true, false, cond}
use mathlib.Core.List.{List, [], ◌∷◌, ◌++◌, map, append_assoc, append-nil}
use Prim.Native.Nat.{ℕ, suc, ◌+◌, ◌≤◌, ◌<◌}
use native.Mathlib.Omega.{arith}
use native.Mathlib.Nat.{add-zero}
use lib.Dec.{leb, eqb}
use lib.ListN.{length, get_or, length-append}
use borrow.Author.Tests.{eq-eqb, ne_eqb, lt-leb}
use Rattle.fields.specs.Values.{Values, found, misread}
use Rattle.rates.specs.Table.{ages}
use Rattle.plan.specs.declared.Amendment.{Amendment}
use Rattle.plan.specs.declared.Member.{Member}
use Rattle.rules.specs.Refusals.{wrong_count, wrong_amendment}
use Rattle.plan.specs.Numbers.{amendment_from, fields_of}
use Rattle.amendments.specs.Judging.{most_amendments, field_refusal}
use Rattle.rules.specs.Outcome.{values}
use Rattle.walk.specs.Terms.{term_forms, term_form, term_refusal}
use Rattle.walk.specs.Lines.{amend_form, row_form, due_age, row_refusal, Tail, listed, end, surplus, neither, most_members, tail_of}
use Rattle.walk.specs.Step.{Head, headed, State, heading, amending, table, people, ended, right, wrong, after_term, term_line, with_amend, amend_refusal, amend_line, with_row, after_row, refusal_after, tail_line, verdict_of, step}
use Rattle.walk.specs.Step.{row_line as readRow}
use Rattle.walk.specs.Walk.{next_of, folded}
use Rattle.walk.proofs.OutcomeLaws.{then_values}
use Rattle.walk.proofs.FoldLaws.{Right, walk_on}
use Rattle.written.specs.Written.{amendment_line, row_line, row_lines, member_line, end_line}
use Rattle.written.proofs.ValueTexts.{Small}
use Rattle.written.proofs.TermTexts.{Term, TermTexts, AllTexts, spelt}
use Rattle.written.proofs.LineTexts.{amend_back, amend_self, numbers_of, row_back, row_self, five_of, member_back, OnlyMember, member_only, end_back, OnlyEnd, end_only}

-- ---- from some lines to others
-- reading goes from a state through some lines, with `rest` after them, to a last one
abbrev Ends : (rest : List ℕ) → State → (lines : List (List ℕ)) → (last : State) → Type 0
Ends rest state lines last = (k : ℕ) → folded false rest k state lines ≡ values last

-- at whatever line it begins
pub any_line : (rest : List ℕ) (k j : ℕ) (state : State) (lines : List (List ℕ)) {last : State} → folded false rest k state lines ≡ values last → folded false rest j state lines ≡ values last
unfolding folded step
any_line rest k j state [] e = e
any_line rest k j state (line ∷ lines) e =
    let s = then_values (step false k state line (next_of rest lines)) _ e in
    let p = walk_on false k state line (next_of rest lines) s.1 in
    rw p.1 (any_line rest (k + 1) (j + 1) s.0 lines s.2)

-- some lines are passed where they fit; and where they are passed, the state after them is this one
pub record Goes (fit : Type 0) (state : State) (lines : List (List ℕ)) (next : State) (more : List (List ℕ)) : Type 0 where
  pub on : fit → (rest : List ℕ) (last : State) → Ends rest next more last → Ends rest state lines last
  pub only : (rest : List ℕ) (last : State) → Ends rest state lines last → Ends rest next more last

-- no line, and some lines after others
stay : (fit : Type 0) (state : State) (lines : List (List ℕ)) → Goes fit state lines state lines
stay fit state lines = record { on = λ f rest last e. e; only = λ rest last e. e }

infixr 5 ◌onward◌
pub ◌onward◌ : {f g : Type 0} {a b c : State} {k l m : List (List ℕ)} → Goes f a k b l → Goes g b l c m → Goes (f × g) a k c m
◌onward◌ p q = record { on = λ fits rest last e. p.on fits.0 rest last (q.on fits.1 rest last e); only = λ rest last e. q.only rest last (p.only rest last e) }

-- a line
record Reads (fit : Type 0) (state : State) (line : List ℕ) (next : State) : Type 0 where
  on : fit → (ahead : List ℕ) → (r : ℕ) × (verdict_of state line ahead ≡ right r next)
  only : (ahead : List ℕ) → Right (λ r other. other ≡ next) (verdict_of state line ahead)

passes : {fit : Type 0} {state next : State} {line : List ℕ} (more : List (List ℕ)) → Reads fit state line next → Goes fit state (line ∷ more) next more
unfolding folded step
passes {fit} {state} {next} {line} more reads = record { on = on; only = only }
  where
    on : fit → (rest : List ℕ) (last : State) → Ends rest next more last → Ends rest state (line ∷ more) last
    on fits rest last e k = rw (reads.on fits (next_of rest more)).1 (e (k + 1))

    only : (rest : List ℕ) (last : State) → Ends rest state (line ∷ more) last → Ends rest next more last
    only rest last e k =
        let s = then_values (step false 0 state line (next_of rest more)) _ (e 0) in
        let p = walk_on false 0 state line (next_of rest more) s.1 in
        let same = rw p.1 at (reads.only (next_of rest more)) in
        any_line rest (0 + 1) k next more (subst (λ (n : State). folded false rest (0 + 1) n more ≡ values last) same s.2)

-- ---- the terms
abbrev pub TermsFit : List Term → List ℕ → Type 0
TermsFit ts [] = Unit {0}
TermsFit [] (v ∷ vs) = Unit {0}
TermsFit (t ∷ ts) (v ∷ vs) = ((t.low ≤ v) × (v ≤ t.high)) × TermsFit ts vs

term_reads : (before : List ℕ) (v : ℕ) {form : List ℕ → Values} {t : Term} → TermTexts form t → term_form (length before) ≡ form → Reads ((t.low ≤ v) × (v ≤ t.high)) (heading before) (t.write v) (after_term (before ++ v ∷ []))
unfolding verdict_of
term_reads before v {form} {t} texts same =
    record {
      on = λ fits ahead. (term_refusal before v, rw (same, texts.back v fits.0 fits.1));
      only = λ ahead. pick (term_form (length before) (t.write v)) (ap (λ (f : List ℕ → Values). f (t.write v)) same);
    }
  where
    pick : (x : Values) → x ≡ form (t.write v) → Right (λ r other. other ≡ after_term (before ++ v ∷ [])) (term_line before x)
    pick misread e = tt
    pick (found vs) e = ap (λ (n : ℕ). after_term (before ++ n ∷ [])) (texts.self v vs (sym e))

pub terms_go : (forms : List (List ℕ → Values)) (ts : List Term) → AllTexts forms ts → (before vs : List ℕ) (more : List (List ℕ)) → length vs ≡ length ts → 0 < length vs → length before + length vs ≡ length term_forms → ((j : ℕ) → term_form (length before + j) ≡ get_or forms j (λ line. misread)) → Goes (TermsFit ts vs) (heading before) (spelt ts vs ++ more) (amending (headed (before ++ vs))) more
terms_go forms ts all before [] more long some full same = absurd (omega arith)
terms_go [] [] all before (v ∷ vs) more long some full same = absurd (omega arith)
terms_go [] (t ∷ ts) all before (v ∷ vs) more long some full same = absurd all
terms_go (form ∷ forms) [] all before (v ∷ vs) more long some full same = absurd all
terms_go (form ∷ forms) (t ∷ ts) all before (v ∷ []) more long some full same =
    let here = term_reads before v all.0 (sym (ap term_form (add-zero (length before))) ∙ same 0) in
    let u = before ++ v ∷ [] in
    let last : after_term u ≡ amending (headed u) = simp (eq-eqb (length u) (length term_forms) (simp length-append (omega arith))) in
    rw last at (passes more here) onward stay _ _ _
terms_go (form ∷ forms) (t ∷ ts) all before (v ∷ w ∷ vs) more long some full same =
    let here = term_reads before v all.0 (sym (ap term_form (add-zero (length before))) ∙ same 0) in
    let u = before ++ v ∷ [] in
    let size = length-append before (v ∷ []) in
    let next : (j : ℕ) → term_form (length u + j) ≡ get_or forms j (λ line. misread) = λ j. let place : length u + j ≡ length before + suc j = omega (arith, size) in ap term_form place ∙ same (suc j) in
    let later = terms_go forms ts all.1 u (w ∷ vs) more (omega arith) (omega arith) (omega (arith, size)) next in
    let not_last : after_term u ≡ heading u = simp (ne_eqb (length u) (length term_forms) (λ e. omega (arith, size))) in
    let whole = append_assoc before (v ∷ []) (w ∷ vs) in
    rw (not_last) at (passes (spelt ts (w ∷ vs) ++ more) here) onward rw whole at later

-- ---- the amendments
-- after so many others
abbrev pub AmendsFit : (count : ℕ) → List Amendment → Type 0
AmendsFit count [] = Unit {0}
AmendsFit count (a ∷ l) = ((count < most_amendments) × Small 1000000000000 3 (fields_of a)) × AmendsFit (suc count) l

amend_reads : (h : Head) (a : Amendment) → Reads ((length h.amends < most_amendments) × Small 1000000000000 3 (fields_of a)) (amending h) (amendment_line a) (amending (with_amend h a))
unfolding verdict_of amendment_line
amend_reads h a =
    record {
      on = λ fits ahead. (amend_refusal h ahead a, rw (amend_back a fits.1, lt-leb most_amendments (length h.amends) fits.0));
      only = λ ahead. pick ahead (amend_form (amendment_line a)) refl;
    }
  where
    full : (ahead : List ℕ) (b : Amendment) → b ≡ a → (t : Bool) → Right (λ r other. other ≡ amending (with_amend h a)) (cond t (wrong (field_refusal b) wrong_amendment) (right (amend_refusal h ahead b) (amending (with_amend h b))))
    full ahead b same true = tt
    full ahead b same false = ap (λ (x : Amendment). amending (with_amend h x)) same

    pick : (ahead : List ℕ) (x : Values) → amend_form (amendment_line a) ≡ x → Right (λ r other. other ≡ amending (with_amend h a)) (amend_line h ahead x)
    pick ahead misread e = tt
    pick ahead (found vs) e = full ahead (amendment_from vs) (ap amendment_from (amend_self a vs e)) (leb most_amendments (length h.amends))

abbrev with_amends : Head → List Amendment → Head
with_amends h l = record { terms = h.terms; amends = h.amends ++ l; rows = h.rows }

pub amends_go : (h : Head) (l : List Amendment) (more : List (List ℕ)) → Goes (AmendsFit (length h.amends) l) (amending h) (map amendment_line l ++ more) (amending (with_amends h l)) more
amends_go h [] more = rw (append-nil h.amends) (stay _ _ _)
amends_go h (a ∷ l) more =
    let size : length (h.amends ++ a ∷ []) ≡ suc (length h.amends) = simp length-append (omega arith) in
    passes (map amendment_line l ++ more) (amend_reads h a) onward rw (size, append_assoc h.amends (a ∷ []) l) at (amends_go (with_amend h a) l more)

-- ---- the rows
abbrev pub Fours : List (List ℕ) → Type 0
Fours [] = Unit {0}
Fours (row ∷ rows) = (length row ≡ 4) × Fours rows

abbrev pub RowsFit : List (List ℕ) → Type 0
RowsFit [] = Unit {0}
RowsFit (row ∷ rows) = Small 1000000000000 3 (numbers_of row) × RowsFit rows

-- a state in which a row is due
abbrev RowDue : Head → State → Type 0
RowDue h state = (row ahead : List ℕ) (age : ℕ) → verdict_of state (row_line age row) ahead ≡ readRow h (row_form (due_age h.rows) (row_line age row))

pub after_amends : (h : Head) → RowDue h (amending h)
unfolding verdict_of row_line
after_amends h row ahead age = refl

in_table : (h : Head) → RowDue h (table h)
unfolding verdict_of
in_table h row ahead age = refl

row_reads : (h : Head) (state : State) → RowDue h state → (row : List ℕ) → length row ≡ 4 → length h.rows < ages → Reads (Small 1000000000000 3 (numbers_of row)) state (row_line (due_age h.rows) row) (after_row (with_row h row))
row_reads h state due row all few =
    record {
      on = λ fits ahead. (row_refusal h.rows row, due row ahead age ∙ rw (row_back age row all (omega arith) fits));
      only = λ ahead. rw (due row ahead age) (pick (row_form age (row_line age row)) refl);
    }
  where
    age : ℕ
    age = due_age h.rows

    pick : (x : Values) → row_form age (row_line age row) ≡ x → Right (λ r other. other ≡ after_row (with_row h row)) (readRow h x)
    pick misread e = tt
    pick (found r) e = ap (λ (x : List ℕ). after_row (with_row h x)) (row_self age row r all e)

abbrev with_rows : Head → List (List ℕ) → Head
with_rows h l = record { terms = h.terms; amends = h.amends; rows = h.rows ++ l }

pub rows_go : (h : Head) (state : State) (l more : List (List ℕ)) → RowDue h state → Fours l → 0 < length l → length h.rows + length l ≡ ages → Goes (RowsFit l) state (row_lines (due_age h.rows) l ++ more) (people (with_rows h l) []) more
unfolding row_lines
rows_go h state [] more due fours some full = absurd (omega arith)
rows_go h state (row ∷ []) more due fours some full =
    let last : length (h.rows ++ row ∷ []) ≡ ages = simp length-append (omega arith) in
    let next : after_row (with_row h row) ≡ people (with_row h row) [] = simp (eq-eqb _ _ last) in
    rw next at (passes more (row_reads h state due row fours.0 (omega arith))) onward stay _ _ _
rows_go h state (row ∷ r ∷ l) more due fours some full =
    let size : length (h.rows ++ row ∷ []) ≡ suc (length h.rows) = simp length-append (omega arith) in
    let next : after_row (with_row h row) ≡ table (with_row h row) = simp (ne_eqb (length (h.rows ++ row ∷ [])) ages (λ e. omega (arith, size))) in
    let older : due_age (h.rows ++ row ∷ []) ≡ suc (due_age h.rows) = omega (arith, size) in
    let later = rows_go (with_row h row) (table (with_row h row)) (r ∷ l) more (in_table (with_row h row)) fours.1 (omega arith) (omega (arith, size)) in
    rw next at (passes (row_lines (suc (due_age h.rows)) (r ∷ l) ++ more) (row_reads h state due row fours.0 (omega arith))) onward rw (older, append_assoc h.rows (row ∷ []) (r ∷ l)) at later

-- ---- the members
abbrev pub MembersFit : (count : ℕ) → List Member → Type 0
MembersFit count [] = Unit {0}
MembersFit count (m ∷ l) = ((count < most_members) × Small 100000000000000 4 (five_of m)) × MembersFit (suc count) l

member_reads : (h : Head) (before : List Member) (m : Member) → Reads ((length before < most_members) × Small 100000000000000 4 (five_of m)) (people h before) (member_line m) (people h (before ++ m ∷ []))
unfolding verdict_of
member_reads h before m =
    record {
      on = λ fits ahead. (refusal_after h before m, rw (lt-leb most_members (length before) fits.0, member_back m fits.1));
      only = λ ahead. pick (tail_of (leb most_members (length before)) (member_line m)) (member_only (leb most_members (length before)) m);
    }
  where
    pick : (x : Tail) → OnlyMember m x → Right (λ r other. other ≡ people h (before ++ m ∷ [])) (tail_line h before x)
    pick (listed other) same = ap (λ (x : Member). people h (before ++ x ∷ [])) same
    pick (end n) none = absurd none
    pick surplus u = tt
    pick neither u = tt

pub members_go : (h : Head) (before l : List Member) (more : List (List ℕ)) → Goes (MembersFit (length before) l) (people h before) (map member_line l ++ more) (people h (before ++ l)) more
members_go h before [] more = rw (append-nil before) (stay _ _ _)
members_go h before (m ∷ l) more =
    let size : length (before ++ m ∷ []) ≡ suc (length before) = simp length-append (omega arith) in
    passes (map member_line l ++ more) (member_reads h before m) onward rw (size, append_assoc before (m ∷ []) l) at (members_go h (before ++ m ∷ []) l more)

-- ---- the end
end_reads : (h : Head) (members : List Member) → Reads (length members < 1000000000000) (people h members) (end_line (length members)) (ended h members)
unfolding verdict_of
end_reads h members =
    record {
      on = λ fits ahead. (0, rw (end_back (leb most_members (length members)) (length members) fits, eq-eqb (length members) (length members) refl));
      only = λ ahead. pick (tail_of (leb most_members (length members)) (end_line (length members))) (end_only (leb most_members (length members)) (length members));
    }
  where
    count : (b : Bool) → Right (λ r other. other ≡ ended h members) (cond b (right 0 (ended h members)) (wrong 0 wrong_count))
    count true = refl
    count false = tt

    pick : (x : Tail) → OnlyEnd (length members) x → Right (λ r other. other ≡ ended h members) (tail_line h members x)
    pick (listed m) none = absurd none
    pick (end n) same = count (eqb n (length members))
    pick surplus u = tt
    pick neither u = tt

pub end_goes : (h : Head) (members : List Member) → Goes (length members < 1000000000000) (people h members) (end_line (length members) ∷ []) (ended h members) []
end_goes h members = passes [] (end_reads h members)
