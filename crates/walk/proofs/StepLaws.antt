-- The laws of the step: each kind of line, once.
use Prim.Native.Nat.{ℕ, ◌+◌, ◌≤◌, ◌<◌}
use mathlib.Core.Path.{◌≡◌, refl}
use mathlib.Core.List.{List, [], ◌∷◌, ◌++◌, append_assoc, append-nil}
use mathlib.Core.Bool.{Bool, true, false, cond}
use mathlib.Core.Logic.{◌⊎◌, inl, inr, ⊎_elim, ◌↔◌}
use lib.ListN.{length, get_or, length-append}
use lib.Dec.{eqb, leb}
use native.Mathlib.Omega.{arith}
use native.Mathlib.Nat.{eq-or-lt_of_le}
use borrow.Author.Tests.{eqb-true, eqb-false, leb-false}
use Rattle.fields.specs.Text.{bytes}
use Rattle.fields.specs.Split.{starts_of}
use Rattle.fields.specs.Numbers.{whole_of}
use Rattle.fields.specs.Values.{Values, found, misread, keyed_of}
use Rattle.rates.specs.Table.{ages}
use Rattle.plan.specs.declared.Member.{Member}
use Rattle.rules.specs.Refusals.{out_of_range, wrong_count, wrong_amendment}
use Rattle.rules.specs.Rules.{first_among}
use Rattle.rules.proofs.RuleLaws.{all_kept, kept_all}
use Rattle.plan.specs.Numbers.{amendment_from}
use Rattle.amendments.specs.Judging.{most_amendments, field_refusal, amendment_refusal, unit_refusal}
use Rattle.walk.specs.Terms.{term_forms, term_form, term_refusal}
use Rattle.walk.specs.Lines.{begins, amend_form, row_form, due_age, row_refusal, Tail, listed, end, surplus, neither, end_made, most_members, tail_of}
use Rattle.walk.specs.Step.{Head, plan_in, headed, State, heading, amending, table, people, ended, Verdict, wrong, right, term_line, with_amend, unit_ahead, amend_refusal, amend_line, with_row, row_line, last_id, refusal_after, tail_line, verdict_of}
use Rattle.walk.specs.Kept.{EachAfter, Each, Kept}
use Rattle.walk.specs.Answers.{Section, in_heading, in_list, in_table, in_members, past_end, FormOf, term_form_lem, amend_form_lem, twenty_first, row_form_lem, count, tail_form, surplus as surplus-form, after_end, RangeOf, of_line}
use Rattle.walk.proofs.RangeLaws.{Ranged, field_ranged, amend_ranged, row_ranged, line_ranged, term_ranged}
use Rattle.walk.proofs.FoldLaws.{Right, InOrder}

-- ---- one item more
pub each_next : {A : Type 0} (rule : List A → A → ℕ) (before l : List A) (a : A) → EachAfter rule before (l ++ a ∷ []) ↔ (EachAfter rule before l × (rule (before ++ l) a ≡ 0))
each_next rule before [] a = rw append-nil ((λ e. (tt, e.0)), (λ e. (e.1, tt)))
each_next rule before (b ∷ l) a =
    let h = rw append_assoc at (each_next rule (before ++ b ∷ []) l a) in
    ((λ e. let f = h.0 e.1 in ((e.0, f.0), f.1)), (λ e. (e.0.0, h.1 (e.0.1, e.1))))

-- the last id of members and one more
pub last_id_lem : (l : List Member) (m : Member) → last_id (l ++ m ∷ []) ≡ m.id
last_id_lem [] m = refl
last_id_lem (a ∷ []) m = refl
last_id_lem (a ∷ b ∷ l) m = last_id_lem (b ∷ l) m

-- ---- what is due, and at which line
-- after the terms the line itself says whether it is an amendment's or the first row's
abbrev pub section_of : State → (line : List ℕ) → Section
section_of (heading terms) line = in_heading
section_of (amending h) line = cond (begins line) in_list in_table
section_of (table h) line = in_table
section_of (people h members) line = in_members
section_of (ended h members) line = past_end

-- how many items a state holds, and line k is due
abbrev pub Sized : ℕ → State → Type 0
Sized k (heading terms) = (k ≡ length terms + 1) × (length terms < length term_forms)
Sized k (amending h) =
    (k ≡ length term_forms + length h.amends + 1) × (length h.terms ≡ length term_forms) × (length h.amends ≤ most_amendments) × (length h.rows ≡ 0)
Sized k (table h) =
    (k ≡ length term_forms + length h.amends + length h.rows + 1) × (length h.terms ≡ length term_forms) × (length h.amends ≤ most_amendments) × (length h.rows < ages)
Sized k (people h members) =
    (k ≡ length term_forms + length h.amends + ages + length members + 1) × (length h.terms ≡ length term_forms) × (length h.amends ≤ most_amendments) × (length h.rows ≡ ages) × (length members ≤ most_members)
Sized k (ended h members) =
    (k ≡ length term_forms + length h.amends + ages + length members + 2) × (length h.terms ≡ length term_forms) × (length h.amends ≤ most_amendments) × (length h.rows ≡ ages) × (length members ≤ most_members)

-- a line wrong in its form has a number of form, and before that a range speaks only where a twenty-first amendment has a wrong field; one right in its
-- form is refused by a number of ranges, and adds one item
pub record Amiss (section : Section) (r n : ℕ) : Type 0 where
  pub form : FormOf section n
  pub sooner : (r ≡ 0) ⊎ (RangeOf section r × (r ≡ out_of_range) × (n ≡ wrong_amendment))

pub record Next (state : State) (line ahead : List ℕ) (r : ℕ) (next : State) : Type 0 where
  pub ranged : Ranged (section_of state line) r
  pub kept : Kept next ahead ↔ (Kept state line × (r ≡ 0))
  pub sized : (k : ℕ) → Sized k state → Sized (k + 1) next

abbrev pub Lawful : State → (line ahead : List ℕ) → Verdict → Type 0
Lawful state line ahead (wrong r n) = Amiss (section_of state line) r n
Lawful state line ahead (right r next) = Next state line ahead r next

amiss : {section : Section} {n : ℕ} → FormOf section n → Amiss section 0 n
amiss f = record { form = f; sooner = inl refl }

below : {n m : ℕ} → n ≤ m → (n ≡ m → ⊥) → n < m
below h ne = ⊎_elim (λ e. absurd (ne e)) (λ l. l) (eq-or-lt_of_le h)

-- ---- a term
-- where there is no amendment the unit is the heading's own
none_ahead : (terms line : List ℕ) → unit_ahead (headed terms) line ≡ 0
unfolding unit_refusal
none_ahead terms line = pick (begins line)
  where
    pick : (b : Bool) → ◌≡◌ {A = ℕ} (cond b 0 0) 0
    pick true = refl
    pick false = refl

module _ (terms : List ℕ) where
  term_kept : (line : List ℕ) (b : Bool) → Kept (cond b (amending (headed terms)) (heading terms)) line ↔ Each term_refusal terms
  term_kept line true = ((λ k. k.terms), (λ e. record { terms = e; amends = tt; unit = none_ahead terms line; rows = tt; members = tt }))
  term_kept line false = ((λ k. k.terms), (λ e. record { terms = e; amends = tt; unit = refl; rows = tt; members = tt }))

  term_sized : (k : ℕ) → k ≡ length terms + 1 → length terms ≤ length term_forms → (b : Bool) → eqb (length terms) (length term_forms) ≡ b → Sized k (cond b (amending (headed terms)) (heading terms))
  term_sized k at fits true e = let all = eqb-true (length terms) (length term_forms) e in (omega arith, all, omega arith, refl)
  term_sized k at fits false e = (at, below fits (eqb-false (length terms) (length term_forms) e))

term_lawful : (terms line ahead : List ℕ) (x : Values) → ((vs : List ℕ) → x ≡ found vs → Ranged in_heading (term_refusal terms (get_or vs 0 0))) → Lawful (heading terms) line ahead (term_line terms x)
term_lawful terms line ahead misread ranged = amiss term_form_lem
term_lawful terms line ahead (found vs) ranged =
    let v = get_or vs 0 0 in
    let u = terms ++ v ∷ [] in
    let b = eqb (length u) (length term_forms) in
    let more = each_next term_refusal [] terms v in
    let long = length-append terms (v ∷ []) in
    record {
      ranged = ranged vs refl;
      kept = (
        (λ k. let f = more.0 ((term_kept u ahead b).0 k) in ((term_kept terms line false).1 f.0, f.1)),
        (λ f. (term_kept u ahead b).1 (more.1 (f.0.terms, f.1))),
      );
      sized = λ k s. term_sized u (k + 1) (omega (arith, s.0, long)) (omega (arith, s.1, long)) b refl;
    }

-- ---- an amendment
both_kept : (a b : ℕ) → (first_among (a ∷ b ∷ []) ≡ 0) ↔ ((a ≡ 0) × (b ≡ 0))
both_kept a b =
    ((λ e. let k = all_kept (a ∷ b ∷ []) e in (k.0, k.1.0)), (λ k. kept_all (a ∷ b ∷ []) (k.0, (k.1, tt))))

amend_lawful : (h : Head) (line ahead : List ℕ) (x : Values) → begins line ≡ true → Lawful (amending h) line ahead (amend_line h ahead x)
amend_lawful h line ahead misread on = rw on (amiss amend_form_lem)
amend_lawful h line ahead (found vs) on = pick (leb most_amendments (length h.amends)) refl
  where
    pick : (b : Bool) → leb most_amendments (length h.amends) ≡ b → Lawful (amending h) line ahead (cond b (wrong (field_refusal (amendment_from vs)) wrong_amendment) (right (amend_refusal h ahead (amendment_from vs)) (amending (with_amend h (amendment_from vs)))))
    pick true e =
        rw on
        (record { form = twenty_first; sooner = ⊎_elim inl (λ f. inr (f.0, f.1, refl)) (field_ranged h.amends (amendment_from vs)) })
    pick false e =
        let a = amendment_from vs in
        let low = leb-false most_amendments (length h.amends) e in
        let long = length-append h.amends (a ∷ []) in
        let more = each_next amendment_refusal [] h.amends a in
        let rules = both_kept (amendment_refusal h.amends a) (unit_ahead (with_amend h a) ahead) in
        record {
          ranged = rw on (amend_ranged h ahead a);
          kept = (
            (λ k.
                let f = more.0 k.amends in
                (record { terms = k.terms; amends = f.0; unit = rw on refl; rows = k.rows; members = tt }, rules.1 (f.1, k.unit))),
            (λ f.
                let r = rules.0 f.1 in
                record { terms = f.0.terms; amends = more.1 (f.0.amends, r.0); unit = r.1; rows = f.0.rows; members = tt }),
          );
          sized = λ k s. (omega (arith, s.0, long), s.1, omega (arith, low, long), s.3);
        }

-- ---- a row: also the first, where an amendment might stand
first_row : (h : Head) (line : List ℕ) → begins line ≡ false → Kept (amending h) line ↔ Kept (table h) []
first_row h line off = (
  (λ k. record { terms = k.terms; amends = k.amends; unit = rw off at k.unit; rows = k.rows; members = tt }),
  (λ k. record { terms = k.terms; amends = k.amends; unit = rw off k.unit; rows = k.rows; members = tt }),
)

later_row : (h : Head) (line : List ℕ) → Kept (table h) line ↔ Kept (table h) []
later_row h line = (
  (λ k. record { terms = k.terms; amends = k.amends; unit = k.unit; rows = k.rows; members = tt }),
  (λ k. record { terms = k.terms; amends = k.amends; unit = k.unit; rows = k.rows; members = tt }),
)

module _ (h : Head) where
  row_kept : (ahead : List ℕ) (b : Bool) → Kept (cond b (people h []) (table h)) ahead ↔ Kept (table h) []
  row_kept ahead true = (
    (λ k. record { terms = k.terms; amends = k.amends; unit = k.unit; rows = k.rows; members = tt }),
    (λ k. record { terms = k.terms; amends = k.amends; unit = k.unit; rows = k.rows; members = tt }),
  )
  row_kept ahead false = later_row h ahead

  row_sized : (k : ℕ) → k ≡ length term_forms + length h.amends + length h.rows + 1 → length h.terms ≡ length term_forms → length h.amends ≤ most_amendments → length h.rows ≤ ages → (b : Bool) → eqb (length h.rows) ages ≡ b → Sized k (cond b (people h []) (table h))
  row_sized k at all few fits true e =
      let full = eqb-true (length h.rows) ages e in (omega arith, all, few, full, omega arith)
  row_sized k at all few fits false e = (at, all, few, below fits (eqb-false (length h.rows) ages e))

row_lawful : (state : State) (h : Head) (line ahead : List ℕ) (x : Values) → section_of state line ≡ in_table → Kept state line ↔ Kept (table h) [] → ((k : ℕ) → Sized k state → Sized k (table h)) → Lawful state line ahead (row_line h x)
row_lawful state h line ahead misread place here fits = rw place (amiss row_form_lem)
row_lawful state h line ahead (found row) place here fits =
    let u = with_row h row in
    let b = eqb (length u.rows) ages in
    let more = each_next row_refusal [] h.rows row in
    let long = length-append h.rows (row ∷ []) in
    record {
      ranged = rw place (row_ranged h.rows row);
      kept = (
        (λ k.
            let e = (row_kept u ahead b).0 k in
            let f = more.0 e.rows in
            (here.1 (record { terms = e.terms; amends = e.amends; unit = e.unit; rows = f.0; members = tt }), f.1)),
        (λ f.
            let e = here.0 f.0 in
            (row_kept u ahead b).1 (record { terms = e.terms; amends = e.amends; unit = e.unit; rows = more.1 (e.rows, f.1); members = tt })),
      );
      sized = λ k s. let g = fits k s in row_sized u (k + 1) (omega (arith, g.0, long)) g.1 g.2 (omega (arith, g.3, long)) b refl;
    }

-- ---- a member, or the end
tail_lawful : (h : Head) (members : List Member) (line ahead : List ℕ) (x : Tail) → ((m : Member) → x ≡ listed m → length members < most_members) → Lawful (people h members) line ahead (tail_line h members x)
tail_lawful h members line ahead (listed m) room =
    let more = each_next (refusal_after h) [] members m in
    let low = room m refl in
    let long = length-append members (m ∷ []) in
    record {
      ranged = line_ranged (plan_in h) h.rows _ _ m;
      kept = (
        (λ k. let f = more.0 k.members in (record { terms = k.terms; amends = k.amends; unit = k.unit; rows = k.rows; members = f.0 }, f.1)),
        (λ f. let k = f.0 in record { terms = k.terms; amends = k.amends; unit = k.unit; rows = k.rows; members = more.1 (k.members, f.1) }),
      );
      sized = λ k s. (omega (arith, s.0, long), s.1, s.2, s.3, omega (arith, low, long));
    }
tail_lawful h members line ahead (end n) room = pick (eqb n (length members))
  where
    pick : (b : Bool) → Lawful (people h members) line ahead (cond b (right 0 (ended h members)) (wrong 0 wrong_count))
    pick true =
        record {
          ranged = inl refl;
          kept = (
            (λ k. (record { terms = k.terms; amends = k.amends; unit = k.unit; rows = k.rows; members = k.members }, refl)),
            (λ f. let k = f.0 in record { terms = k.terms; amends = k.amends; unit = k.unit; rows = k.rows; members = k.members }),
          );
          sized = λ k s. (omega (arith, s.0), s.1, s.2, s.3, s.4);
        }
    pick false = amiss count
tail_lawful h members line ahead surplus room = amiss surplus-form
tail_lawful h members line ahead neither room = amiss tail_form

-- with no room left no line is a member
end_not_listed : {A : Type 0} (x : Values) {m : Member} → end_made x ≡ listed m → A
end_not_listed (found vs) e = let z : ◌≡◌ {A = ℕ} 0 1 = cc in absurd (omega arith)
end_not_listed misread e = let z : ◌≡◌ {A = ℕ} 0 1 = cc in absurd (omega arith)

pub full_none : {A : Type 0} (line : List ℕ) (m : Member) → tail_of true line ≡ listed m → A
unfolding tail_of
full_none line m e = pick (starts_of (bytes "member=") line) (keyed_of (bytes "end=") whole_of 0 line) e
  where
    pick : {A : Type 0} (b : Bool) (x : Values) → cond b surplus (end_made x) ≡ listed m → A
    pick true x e = let z : ◌≡◌ {A = ℕ} 0 1 = cc in absurd (omega arith)
    pick false x e = end_not_listed x e

-- ---- any line
pub lawful : (state : State) (line ahead : List ℕ) → Lawful state line ahead (verdict_of state line ahead)
unfolding verdict_of
lawful (heading terms) line ahead = term_lawful terms line ahead (term_form (length terms) line) (term_ranged terms line)
lawful (amending h) line ahead = pick (begins line) refl
  where
    pick : (b : Bool) → begins line ≡ b → Lawful (amending h) line ahead (cond b (amend_line h ahead (amend_form line)) (row_line h (row_form (due_age h.rows) line)))
    pick true e = amend_lawful h line ahead (amend_form line) e
    pick false e =
        row_lawful (amending h) h line ahead (row_form (due_age h.rows) line) (rw e refl) (first_row h line e) (λ k s. (omega (arith, s.0, s.3), s.1, s.2, omega (arith, s.3)))
lawful (table h) line ahead = row_lawful (table h) h line ahead (row_form (due_age h.rows) line) refl (later_row h line) (λ k s. s)
lawful (people h members) line ahead = tail_lawful h members line ahead (tail_of (leb most_members (length members)) line) (room (leb most_members (length members)) refl)
  where
    room : (b : Bool) → leb most_members (length members) ≡ b → (m : Member) → tail_of b line ≡ listed m → length members < most_members
    room true e m is = full_none line m is
    room false e m is = leb-false most_members (length members) e
lawful (ended h members) line ahead = amiss after_end

-- ---- the laws that the walk asks for
of_right : (P : ℕ → State → Type 0) (state : State) (line ahead : List ℕ) (x : Verdict) → Lawful state line ahead x → ((r : ℕ) (next : State) → Next state line ahead r next → P r next) → Right P x
of_right P state line ahead (wrong r n) h f = tt
of_right P state line ahead (right r next) h f = f r next h

pub line_kept : (state : State) (line ahead : List ℕ) → Right (λ r next. Kept next ahead ↔ (Kept state line × (r ≡ 0))) (verdict_of state line ahead)
line_kept state line ahead = of_right (λ r next. Kept next ahead ↔ (Kept state line × (r ≡ 0))) state line ahead (verdict_of state line ahead) (lawful state line ahead) (λ r next n. n.kept)

pub line_sized : (k : ℕ) (state : State) (line ahead : List ℕ) → Sized k state → Right (λ r next. Sized (k + 1) next) (verdict_of state line ahead)
line_sized k state line ahead s = of_right (λ r next. Sized (k + 1) next) state line ahead (verdict_of state line ahead) (lawful state line ahead) (λ r next n. n.sized k s)

in_order : (state : State) (line ahead : List ℕ) (x : Verdict) → Lawful state line ahead x → InOrder x
in_order state line ahead (wrong r n) h = ⊎_elim inl (λ f. inr (of_line (section_of state line) f.0, f.1, f.2)) h.sooner
in_order state line ahead (right r next) h = ⊎_elim inl (λ n. inr (of_line (section_of state line) n)) h.ranged

pub line_order : (state : State) (line ahead : List ℕ) → InOrder (verdict_of state line ahead)
line_order state line ahead = in_order state line ahead (verdict_of state line ahead) (lawful state line ahead)
