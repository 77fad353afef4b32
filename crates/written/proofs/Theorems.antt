-- The statements of specs/Statements.antt: reading and writing undo each other.
use mathlib.Core.Path.{◌≡◌, refl, sym, ap, subst, ◌∙◌}
use mathlib.Core.Bool.{Bool, true, false}
use mathlib.Core.List.{List, [], ◌∷◌, ◌++◌, map, append_assoc, append-nil}
use Prim.Native.Nat.{ℕ, ◌+◌, ◌≤◌, ◌<◌}
use native.Mathlib.Omega.{arith}
use lib.Dec.{eqb-suc-zero}
use lib.ListN.{length}
use borrow.Author.Tests.{le-ltb}
use Rattle.rates.specs.Table.{first_age}
use Rattle.plan.specs.declared.Member.{Member}
use Rattle.plan.specs.Numbers.{terms_of, plan_from}
use Rattle.rules.specs.Outcome.{values}
use Rattle.walk.specs.Terms.{term_forms, term_form}
use Rattle.walk.specs.Step.{Head, headed, State, heading, amending, table, people, ended}
use Rattle.walk.specs.Walk.{Case, lines_of, rest_of, case_of, closed, folded, start, walk_of}
use Rattle.walk.specs.Kept.{AcceptedCase}
use Rattle.walk.proofs.OutcomeLaws.{no_values, values_one}
use Rattle.walk.proofs.FoldLaws.{folded_keeps}
use Rattle.walk.proofs.StepLaws.{Sized, line_sized}
use Rattle.walk.proofs.Theorems.{start_sized}
use Rattle.walk.proofs.Accepted.{terms_back, last_of, walk_of_lem, accepted_keeps, accepts_kept}
use Rattle.judging.proofs.Exactly.{refused_exactly}
use Rattle.written.specs.Written.{term_lines, amendment_line, row_lines, member_line, end_line, case_lines, closed_lines, written}
use Rattle.written.specs.Statements.{FullTable, WrittenIsAccepted, WrittenIsNoOther, ReadIsWritten, AcceptableExactly}
use Rattle.written.proofs.TermTexts.{terms, all_texts, spelt, plan_lines_lem}
use Rattle.written.proofs.Closing.{closed_lines_lem, lines_closed}
use Rattle.written.proofs.NoBreaks.{case_free}
use Rattle.written.proofs.Reading.{lines_to, lines_lead}
use Rattle.written.proofs.Writing.{any_line, Goes, ◌onward◌, TermsFit, terms_go, AmendsFit, amends_go, RowsFit, after_amends, rows_go, MembersFit, members_go, end_goes}
use Rattle.written.proofs.RowsOfFour.{FoursIn, line_fours, fours_at, at_fours}
use Rattle.written.proofs.Lengths.{written_most}
use Rattle.written.proofs.Fits.{case_fits}

-- ---- read, then written
-- a walk that gives a case ends with nothing left
record Whole (k : ℕ) (rest : List ℕ) (last : State) (c : Case) : Type 0 where
  head : Head
  members : List Member
  is_last : last ≡ ended head members
  nothing : rest ≡ []
  is : c ≡ case_of head members

ended_case : (k : ℕ) (rest : List ℕ) (h : Head) (members : List Member) (c : Case) → closed k rest (ended h members) ≡ values c → (rest ≡ []) × (c ≡ case_of h members)
ended_case k [] h members c e = (refl, sym (values_one e))
ended_case k (b ∷ rest) h members c e = no_values (rw (eqb-suc-zero (length rest)) at e)

whole : (k : ℕ) (rest : List ℕ) (last : State) (c : Case) → closed k rest last ≡ values c → Whole k rest last c
whole k rest (heading t) c e = no_values e
whole k rest (amending h) c e = no_values e
whole k rest (table h) c e = no_values e
whole k rest (people h members) c e = no_values e
whole k rest (ended h members) c e =
    let n = ended_case k rest h members c e in
    record { head = h; members = members; is_last = refl; nothing = n.0; is = n.1 }

-- its lines are the case's
case_lines_lem : (h : Head) (members : List Member) → length h.terms ≡ length term_forms → lines_to (ended h members) ≡ case_lines (case_of h members)
unfolding case_lines
case_lines_lem h members all =
    let head : spelt terms h.terms ≡ term_lines (plan_from h.terms) = sym (plan_lines_lem (plan_from h.terms) ∙ ap (spelt terms) (terms_back h.terms all)) in
    ap (λ (t : List (List ℕ)). t ++ map amendment_line h.amends ++ row_lines first_age h.rows ++ map member_line members ++ end_line (length members) ∷ []) head

-- for its form
read_written : (s : List ℕ) (c : Case) → walk_of false s ≡ values c → (s ≡ written c) × FullTable c.rows
unfolding written
read_written s c e =
    let f = last_of s c false e in
    let w = whole _ (rest_of s) f.last c f.whole in
    let fold = rw w.is_last at f.fold in
    let sized = folded_keeps Sized line_sized false (rest_of s) 1 start (lines_of s) fold start_sized in
    let fours = folded_keeps FoursIn line_fours false (rest_of s) 1 start (lines_of s) fold tt in
    let lines : lines_of s ≡ case_lines (case_of w.head w.members) = sym (lines_lead false (rest_of s) 1 start (lines_of s) fold start_sized) ∙ case_lines_lem w.head w.members sized.1 in
    let bytes : s ≡ closed_lines (lines_of s) = sym (lines_closed s) ∙ rw w.nothing (append-nil (closed_lines (lines_of s))) in
    rw w.is (bytes ∙ ap closed_lines lines, record { all_ages = sized.3; fours = fours_at w.head.rows fours })

-- or its ranges too
form_of : (ranges : Bool) (s : List ℕ) (c : Case) → walk_of ranges s ≡ values c → walk_of false s ≡ values c
form_of true s c e = (accepted_keeps s c e).0
form_of false s c e = e

pub read_is_written : ReadIsWritten
read_is_written ranges s c e = read_written s c (form_of ranges s c e)

-- ---- written, then read
abbrev head_of : Case → Head
head_of c = record { terms = terms_of c.plan; amends = c.amends; rows = c.rows }

nested : (a b c d e : List (List ℕ)) → a ++ b ++ c ++ d ++ e ≡ a ++ (b ++ (c ++ (d ++ e)))
nested a b c d e = simp append_assoc

abbrev AllFit : Case → Type 0
AllFit c =
    TermsFit terms (terms_of c.plan) × (AmendsFit 0 c.amends × (RowsFit c.rows × (MembersFit 0 c.members × (length c.members < 1000000000000))))

case_goes : (c : Case) → FullTable c.rows → Goes (AllFit c) start (case_lines c) (ended (head_of c) c.members) []
unfolding case_lines term_forms
case_goes c full =
    let h = head_of c in
    let list : Head = record { terms = h.terms; amends = h.amends; rows = [] } in
    let people = map member_line c.members in
    let last = end_line (length c.members) ∷ [] in
    let table = row_lines first_age c.rows in
    let amends = map amendment_line c.amends in
    rw (plan_lines_lem c.plan, nested (spelt terms h.terms) amends table people last)
    (terms_go term_forms terms all_texts [] h.terms _ refl (omega arith) (omega arith) (λ j. let place : 0 + j ≡ j = omega arith in ap term_form place)
    onward amends_go (headed h.terms) c.amends _
    onward rows_go list (amending list) c.rows _ (after_amends list) (at_fours c.rows full.fours) (omega (arith, full.all_ages)) (omega (arith, full.all_ages))
    onward members_go h [] c.members _
    onward end_goes h c.members)

-- the lines of its bytes are its lines, and nothing is left
lines_of_lem : (c : Case) → (lines_of (written c) ≡ case_lines c) × (rest_of (written c) ≡ [])
unfolding written
lines_of_lem c = closed_lines_lem (case_lines c) (case_free c)

-- no line is left
at_end : (c : Case) (rest : List ℕ) (k : ℕ) → folded false rest k (ended (head_of c) c.members) [] ≡ values (ended (head_of c) c.members)
unfolding folded
at_end c rest k = refl

written_read : (c : Case) → FullTable c.rows → AllFit c → length (written c) ≤ 65536 → walk_of false (written c) ≡ values c
written_read c full fits short =
    let l = lines_of_lem c in
    let fold = (case_goes c full).on fits [] (ended (head_of c) c.members) (at_end c []) 1 in
    walk_of_lem (written c) c false
    (record {
      last = ended (head_of c) c.members;
      short = le-ltb 65536 (length (written c)) short;
      fold = rw (l.0, l.1) fold;
      whole = rw l.1;
    })

pub written_is_accepted : WrittenIsAccepted
written_is_accepted c full accepted =
    let f = case_fits c accepted in
    accepts_kept (written c) c (written_read c full (f.terms, (f.amends, (f.rows, (f.members, f.count)))) (omega (arith, written_most c accepted))) accepted

pub written_is_no_other : WrittenIsNoOther
unfolding folded
written_is_no_other ranges c d full e =
    let f = last_of (written c) d false (form_of ranges (written c) d e) in
    let l = lines_of_lem c in
    let fold = rw l.0 at f.fold in
    let rest = rest_of (written c) in
    let ends = (case_goes c full).only rest f.last (λ k. any_line rest 1 k start (case_lines c) fold) in
    let last : ended (head_of c) c.members ≡ f.last = values_one (ends 0) in
    (ended_case _ rest (head_of c) c.members d (rw (← last) at f.whole)).1

-- ---- plain values
pub acceptable_exactly : AcceptableExactly
acceptable_exactly c full =
    let rules = refused_exactly c full.all_ages in (
      (λ none. (c, written_is_accepted c full (rules.0 none))),
      (λ read.
          let same = written_is_no_other true c read.0 full read.1 in
          rules.1 (subst AcceptedCase same (accepted_keeps (written c) read.0 read.1).1)),
    )
