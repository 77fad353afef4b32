-- The rows that are read have four numbers each.
use mathlib.Core.Path.{◌≡◌, refl}
use mathlib.Core.Bool.{Bool, true, false, cond}
use mathlib.Core.List.{List, [], ◌∷◌, ◌++◌}
use Prim.Native.Nat.{ℕ, zero, suc, ◌+◌, ◌<◌}
use native.Mathlib.Omega.{arith}
use lib.Dec.{leb, eqb}
use lib.ListN.{length, get_or}
use Rattle.fields.specs.Values.{Values, found, misread}
use Rattle.rates.specs.Table.{ages}
use Rattle.rules.specs.Refusals.{wrong_count, wrong_amendment}
use Rattle.plan.specs.Numbers.{amendment_from}
use Rattle.amendments.specs.Judging.{most_amendments, field_refusal}
use Rattle.walk.specs.Terms.{term_forms, term_form}
use Rattle.walk.specs.Lines.{row_form, due_age, Tail, listed, end, surplus, neither, most_members, tail_of, begins, amend_form}
use Rattle.walk.specs.Step.{Head, headed, State, heading, amending, table, people, ended, right, wrong, term_line, with_amend, amend_refusal, amend_line, with_row, tail_line, verdict_of}
use Rattle.walk.specs.Step.{row_line as readRow}
use Rattle.walk.specs.Kept.{head_in}
use Rattle.walk.proofs.FoldLaws.{Right}
use Rattle.written.proofs.LineTexts.{row_read}
use Rattle.written.proofs.Writing.{Fours}

fours_more : (l : List (List ℕ)) (row : List ℕ) → Fours l → length row ≡ 4 → Fours (l ++ row ∷ [])
fours_more [] row f n = (n, tt)
fours_more (r ∷ l) row f n = (f.0, fours_more l row f.1 n)

abbrev pub FoursIn : ℕ → State → Type 0
FoursIn k state = Fours (head_in state).rows

row_fours : (h : Head) (line : List ℕ) → Fours h.rows → (x : Values) → row_form (due_age h.rows) line ≡ x → Right (λ r next. Fours (head_in next).rows) (readRow h x)
row_fours h line f misread e = tt
row_fours h line f (found row) e = pick (eqb (length (h.rows ++ row ∷ [])) ages) (fours_more h.rows row f (row_read (due_age h.rows) line row e).1)
  where
    pick : (b : Bool) → Fours (h.rows ++ row ∷ []) → Fours (head_in (cond b (people (with_row h row) []) (table (with_row h row)))).rows
    pick true g = g
    pick false g = g

pub line_fours : (k : ℕ) (state : State) (line ahead : List ℕ) → FoursIn k state → Right (λ r next. FoursIn (k + 1) next) (verdict_of state line ahead)
unfolding verdict_of
line_fours k (heading t) line ahead f = term (term_form (length t) line)
  where
    pick : (u : List ℕ) (b : Bool) → Fours (head_in (cond b (amending (headed u)) (heading u))).rows
    pick u true = tt
    pick u false = tt

    term : (x : Values) → Right (λ r next. Fours (head_in next).rows) (term_line t x)
    term misread = tt
    term (found vs) = pick (t ++ get_or vs 0 0 ∷ []) (eqb (length (t ++ get_or vs 0 0 ∷ [])) (length term_forms))
line_fours k (amending h) line ahead f = either (begins line)
  where
    amendment : (x : Values) → Right (λ r next. Fours (head_in next).rows) (amend_line h ahead x)
    amendment misread = tt
    amendment (found vs) = full (leb most_amendments (length h.amends))
      where
        full : (b : Bool) → Right (λ r next. Fours (head_in next).rows) (cond b (wrong (field_refusal (amendment_from vs)) wrong_amendment) (right (amend_refusal h ahead (amendment_from vs)) (amending (with_amend h (amendment_from vs)))))
        full true = tt
        full false = f

    either : (b : Bool) → Right (λ r next. Fours (head_in next).rows) (cond b (amend_line h ahead (amend_form line)) (readRow h (row_form (due_age h.rows) line)))
    either true = amendment (amend_form line)
    either false = row_fours h line f (row_form (due_age h.rows) line) refl
line_fours k (table h) line ahead f = row_fours h line f (row_form (due_age h.rows) line) refl
line_fours k (people h members) line ahead f = tail (tail_of (leb most_members (length members)) line)
  where
    count : (b : Bool) → Right (λ r next. Fours (head_in next).rows) (cond b (right 0 (ended h members)) (wrong 0 wrong_count))
    count true = f
    count false = tt

    tail : (x : Tail) → Right (λ r next. Fours (head_in next).rows) (tail_line h members x)
    tail (listed m) = f
    tail (end n) = count (eqb n (length members))
    tail surplus = tt
    tail neither = tt
line_fours k (ended h members) line ahead f = tt

pub fours_at : (l : List (List ℕ)) → Fours l → (j : ℕ) → j < length l → length (get_or l j []) ≡ 4
fours_at [] f j h = absurd (omega arith)
fours_at (row ∷ l) f zero h = f.0
fours_at (row ∷ l) f (suc j) h = fours_at l f.1 j (omega arith)

pub at_fours : (l : List (List ℕ)) → ((j : ℕ) → j < length l → length (get_or l j []) ≡ 4) → Fours l
at_fours [] f = tt
at_fours (row ∷ l) f = (f 0 (omega arith), at_fours l (λ j h. f (suc j) (omega arith)))
