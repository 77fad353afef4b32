-- What is read is what was written: the lines of a file that is read as a case are that case's lines.
use mathlib.Core.Path.{◌≡◌, refl, sym, ap, ◌∙◌}
use mathlib.Core.Bool.{Bool, true, false, cond}
use mathlib.Core.List.{List, [], ◌∷◌, ◌++◌, map, append_assoc, append-nil}
use Prim.Native.Nat.{ℕ, ◌+◌, ◌<◌}
use native.Mathlib.Omega.{arith}
use lib.Dec.{leb, eqb}
use lib.ListN.{length, get_or}
use borrow.Author.Tests.{eqb-true}
use Rattle.fields.specs.Values.{Values, found, misread}
use Rattle.rates.specs.Table.{first_age, ages}
use Rattle.plan.specs.declared.Amendment.{Amendment}
use Rattle.plan.specs.declared.Member.{Member}
use Rattle.plan.specs.Numbers.{amendment_from}
use Rattle.amendments.specs.Judging.{most_amendments, field_refusal}
use Rattle.rules.specs.Refusals.{wrong_count, wrong_amendment}
use Rattle.rules.specs.Outcome.{values}
use Rattle.walk.specs.Terms.{term_forms, term_form}
use Rattle.walk.specs.Lines.{begins, amend_form, row_form, due_age, Tail, listed, end, surplus, neither, most_members, tail_of}
use Rattle.walk.specs.Step.{Head, headed, State, heading, amending, table, people, ended, wrong, right, term_line, with_amend, amend_refusal, amend_line, with_row, tail_line, verdict_of, step}
use Rattle.walk.specs.Step.{row_line as readRow}
use Rattle.walk.specs.Walk.{next_of, folded}
use Rattle.walk.proofs.OutcomeLaws.{values_one, then_values}
use Rattle.walk.proofs.FoldLaws.{Right, walk_on}
use Rattle.walk.proofs.StepLaws.{Sized, line_sized}
use Rattle.written.specs.Written.{amendment_line, row_line, row_lines, member_line, end_line}
use Rattle.written.proofs.TermTexts.{terms, all_texts, spelt, spelt_more, read_term}
use Rattle.written.proofs.LineTexts.{amend_read, row_read, rows_both, IsMember, tail_read}

-- ---- one item more
more_mapped : {A : Type 0} (f : A → List ℕ) (l : List A) (a : A) → map f (l ++ a ∷ []) ≡ map f l ++ f a ∷ []
more_mapped f [] a = refl
more_mapped f (x ∷ l) a = ap (λ (r : List (List ℕ)). f x ∷ r) (more_mapped f l a)

more_rows : (l : List (List ℕ)) (row : List ℕ) → row_lines first_age (l ++ row ∷ []) ≡ row_lines first_age l ++ row_line (due_age l) row ∷ []
unfolding row_lines
more_rows l row =
    let due : first_age + length l ≡ due_age l = omega arith in
    rows_both first_age l (row ∷ []) ∙ ap (λ (age : ℕ). row_lines first_age l ++ row_line age row ∷ []) due

-- ---- the lines that led to a state
abbrev pub head_lines : Head → List (List ℕ)
head_lines h = spelt terms h.terms ++ map amendment_line h.amends ++ row_lines first_age h.rows

abbrev pub lines_to : State → List (List ℕ)
lines_to (heading t) = spelt terms t
lines_to (amending h) = head_lines h
lines_to (table h) = head_lines h
lines_to (people h members) = head_lines h ++ map member_line members
lines_to (ended h members) = head_lines h ++ map member_line members ++ end_line (length members) ∷ []

-- a line leads on
abbrev Leads : State → (line : List ℕ) → ℕ → State → Type 0
Leads state line r next = lines_to next ≡ lines_to state ++ line ∷ []

-- ---- a term
module _ (t line : List ℕ) where
  after_term : (u : List ℕ) (b : Bool) → lines_to (cond b (amending (headed u)) (heading u)) ≡ spelt terms u
  unfolding row_lines
  after_term u true = append-nil (spelt terms u ++ []) ∙ append-nil (spelt terms u)
  after_term u false = refl

  term_leads : length t < 9 → (x : Values) → term_form (length t) line ≡ x → Right (Leads (heading t) line) (term_line t x)
  term_leads few misread e = tt
  term_leads few (found vs) e =
      let v = get_or vs 0 0 in
      let is = read_term term_forms terms all_texts (length t) line vs e in
      after_term (t ++ v ∷ []) (eqb (length (t ++ v ∷ [])) (length term_forms)) ∙ spelt_more terms t v few ∙ ap (λ (l : List ℕ). spelt terms t ++ l ∷ []) (sym is)

-- ---- an amendment
join : (a b c : List (List ℕ)) (x : List ℕ) → c ≡ [] → a ++ (b ++ x ∷ []) ++ c ≡ (a ++ b ++ c) ++ x ∷ []
join a b c x e = rw (e, append-nil (a ++ (b ++ x ∷ [])), append-nil (a ++ b)) (sym (append_assoc a b (x ∷ [])))

no_rows : (rows : List (List ℕ)) → length rows ≡ 0 → row_lines first_age rows ≡ []
unfolding row_lines
no_rows [] n = refl
no_rows (r ∷ rows) n = absurd (omega arith)

module _ (h : Head) (line : List ℕ) where
  amend_leads : (ahead : List ℕ) → length h.rows ≡ 0 → (x : Values) → amend_form line ≡ x → Right (Leads (amending h) line) (amend_line h ahead x)
  amend_leads ahead none misread e = tt
  amend_leads ahead none (found vs) e = pick (leb most_amendments (length h.amends))
    where
      a : Amendment
      a = amendment_from vs

      pick : (b : Bool) → Right (Leads (amending h) line) (cond b (wrong (field_refusal a) wrong_amendment) (right (amend_refusal h ahead a) (amending (with_amend h a))))
      pick true = tt
      pick false =
          let is = amend_read line vs e in
          rw (more_mapped amendment_line h.amends a, ← is)
          (join (spelt terms h.terms) (map amendment_line h.amends) (row_lines first_age h.rows) line (no_rows h.rows none))

  -- ---- a row
  after_row : (g : Head) (b : Bool) → lines_to (cond b (people g []) (table g)) ≡ head_lines g
  after_row g true = append-nil (head_lines g)
  after_row g false = refl

  row_leads : (state : State) → lines_to state ≡ head_lines h → (x : Values) → row_form (due_age h.rows) line ≡ x → Right (Leads state line) (readRow h x)
  row_leads state same misread e = tt
  row_leads state same (found row) e =
      let is = (row_read (due_age h.rows) line row e).0 in
      let a = spelt terms h.terms in
      let b = map amendment_line h.amends in
      let c = row_lines first_age h.rows in
      after_row (with_row h row) (eqb (length (h.rows ++ row ∷ [])) ages) ∙ rw (more_rows h.rows row, ← is, same) (sym (append_assoc (a ++ b) c (line ∷ [])))

-- ---- a member, or the end
module _ (h : Head) (members : List Member) (line : List ℕ) where
  tail_leads : (x : Tail) → IsMember line x → Right (Leads (people h members) line) (tail_line h members x)
  tail_leads (listed m) is =
      rw (more_mapped member_line members m, ← is) (sym (append_assoc (head_lines h) (map member_line members) (line ∷ [])))
  tail_leads (end n) is = pick (eqb n (length members)) refl
    where
      pick : (b : Bool) → eqb n (length members) ≡ b → Right (Leads (people h members) line) (cond b (right 0 (ended h members)) (wrong 0 wrong_count))
      pick true same =
          let count = eqb-true n (length members) same in
          ap (λ (l : List ℕ). head_lines h ++ map member_line members ++ l ∷ []) (sym (is ∙ ap end_line count))
      pick false same = tt
  tail_leads surplus is = tt
  tail_leads neither is = tt

-- ---- any line, and all
line_leads : (k : ℕ) (state : State) (line ahead : List ℕ) → Sized k state → Right (Leads state line) (verdict_of state line ahead)
unfolding verdict_of term_forms
line_leads k (heading t) line ahead sized = term_leads t line sized.1 (term_form (length t) line) refl
line_leads k (amending h) line ahead sized = pick (begins line)
  where
    pick : (b : Bool) → Right (Leads (amending h) line) (cond b (amend_line h ahead (amend_form line)) (readRow h (row_form (due_age h.rows) line)))
    pick true = amend_leads h line ahead sized.3 (amend_form line) refl
    pick false = row_leads h line (amending h) refl (row_form (due_age h.rows) line) refl
line_leads k (table h) line ahead sized = row_leads h line (table h) refl (row_form (due_age h.rows) line) refl
line_leads k (people h members) line ahead sized =
    tail_leads h members line (tail_of (leb most_members (length members)) line) (tail_read (leb most_members (length members)) line)
line_leads k (ended h members) line ahead sized = tt

pub lines_lead : (ranges : Bool) (rest : List ℕ) (k : ℕ) (state : State) (lines : List (List ℕ)) {last : State} → folded ranges rest k state lines ≡ values last → Sized k state → lines_to last ≡ lines_to state ++ lines
unfolding folded
lines_lead ranges rest k state [] e sized = rw (← values_one e) (sym (append-nil (lines_to state)))
lines_lead ranges rest k state (line ∷ lines) e sized =
    let s = then_values (step ranges k state line (next_of rest lines)) _ e in
    let p = walk_on ranges k state line (next_of rest lines) s.1 in
    let here = rw p.1 at (line_leads k state line (next_of rest lines) sized) in
    let later = lines_lead ranges rest (k + 1) s.0 lines s.2 (rw p.1 at (line_sized k state line (next_of rest lines) sized)) in
    later ∙ rw here (append_assoc (lines_to state) (line ∷ []) lines)
