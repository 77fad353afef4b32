-- One line of a case file, after the lines before it: rules 2.1, 2.11, 3.1, 4.1 and 4.6, with the refusals of rule 12.3.
use Rattle.std.specs.Prelude.{ℕ, List, [], ◌∷◌, ◌++◌, ◌≡◌, refl, Bool, true, cond, length, get_or, leb, eqb}
use Rattle.fields.specs.Text.{bytes}
use Rattle.fields.specs.Split.{has_of, upto_of, past_of}
use Rattle.fields.specs.Numbers.{digits_of, whole_of}
use Rattle.fields.specs.Values.{Values, found, misread, values_of, keyed_of}
use Rattle.rates.specs.ByHand.{Figure, ◌is◌, all_are}
use Rattle.rates.specs.Table.{ages}
use Rattle.plan.specs.declared.Plan.{Plan}
use Rattle.plan.specs.declared.Amendment.{Amendment}
use Rattle.plan.specs.declared.Member.{Member}
use Rattle.rules.specs.Refusals.{bytes_after, wrong_count, plan_form, wrong_amendment, member_form, surplus_member}
use Rattle.rules.specs.Rules.{first_among}
use Rattle.plan.specs.Numbers.{plan_from, amendment_from}
use Rattle.row_rules.specs.Table.{row_rules}
use Rattle.amendments.specs.Force.{listed as listedAmong, stands, in_force_after, additions, as_valued, amend}
use Rattle.amendments.specs.Judging.{most_amendments, field_refusal, amendment_rules, amendment_refusal, unit_refusal, many}
use Rattle.rule_order.specs.Acceptance.{person_sum, line_refusal}
use Rattle.rules.specs.Outcome.{Outcome, values, refusal, passing}
use Rattle.walk.specs.Settled.{settled}
use Rattle.walk.specs.Terms.{term_forms, term_form, term_refusal}
use Rattle.walk.specs.Lines.{begins, amend_form, row_form, due_age, row_refusal, Tail, listed, end, surplus, neither, most_members, tail_of}

-- what the lines before the members hold
pub record Head : Type 0 where
  pub terms : List ℕ
  pub amends : List Amendment
  pub rows : List (List ℕ)

-- rule 2.13: the plan as the members are judged by it and valued
abbrev pub plan_in : Head → Plan
plan_in h = as_valued (plan_from h.terms) h.amends

-- and the terms alone
abbrev pub headed : (terms : List ℕ) → Head
headed terms = record { terms = terms; amends = []; rows = [] }

-- what is due, and what the lines so far hold: a term; an amendment or the first row; a row; a member or the end; nothing more
pub data State : Type 0 where
  heading : (terms : List ℕ) → State
  amending : Head → State
  table : Head → State
  people : Head → (members : List Member) → State
  ended : Head → (members : List Member) → State

-- what is said of a line: wrong in its form, by its number, with what its range rules refuse before that; or right, with what its range rules refuse and
-- the state after it. 0 is no refusal. A range comes before a form where the form is a twenty-first amendment
pub data Verdict : Type 0 where
  wrong : (range number : ℕ) → Verdict
  right : (range : ℕ) → State → Verdict

-- ---- rule 2.1, a term: refusal 10, wrong in its form
abbrev pub after_term : (terms : List ℕ) → State
after_term terms = cond (eqb (length terms) (length term_forms)) (amending (headed terms)) (heading terms)

abbrev pub term_line : (terms : List ℕ) → Values → Verdict
term_line terms misread = wrong 0 plan_form
term_line terms (found vs) = right (term_refusal terms (get_or vs 0 0)) (after_term (terms ++ get_or vs 0 0 ∷ []))

-- ---- rules 2.11 and 2.13, an amendment: refusal 10, wrong in its form; refusal 53, a twenty-first, which reading gives too
abbrev pub with_amend : Head → Amendment → Head
with_amend h a = record { terms = h.terms; amends = h.amends ++ a ∷ []; rows = h.rows }

-- refusal 55: the unit valued, unless the line ahead is an amendment's too
abbrev pub unit_ahead : Head → (ahead : List ℕ) → ℕ
unit_ahead h ahead = cond (begins ahead) 0 (unit_refusal (plan_from h.terms) h.amends)

-- what the rules refuse of an amendment after those before it, and of the unit with it
abbrev pub amend_refusal : Head → (ahead : List ℕ) → Amendment → ℕ
amend_refusal h ahead a = first_among (amendment_refusal h.amends a ∷ unit_ahead (with_amend h a) ahead ∷ [])

abbrev pub amend_line : Head → (ahead : List ℕ) → Values → Verdict
amend_line h ahead misread = wrong 0 plan_form
amend_line h ahead (found vs) =
    let a = amendment_from vs in
    cond (leb most_amendments (length h.amends)) (wrong (field_refusal a) wrong_amendment)
    (right (amend_refusal h ahead a) (amending (with_amend h a)))

-- ---- rule 3.1, a row: refusal 10, wrong in its form or in its age
abbrev pub with_row : Head → List ℕ → Head
with_row h row = record { terms = h.terms; amends = h.amends; rows = h.rows ++ row ∷ [] }

abbrev pub after_row : Head → State
after_row h = cond (eqb (length h.rows) ages) (people h []) (table h)

abbrev pub row_line : Head → Values → Verdict
row_line h misread = wrong 0 plan_form
row_line h (found row) = right (row_refusal h.rows row) (after_row (with_row h row))

-- ---- rules 4.1 and 4.6, a member or the end: refusals 4, 20 and 27
-- rule 4.2: the id of the last of some members, 0 where there is none
abbrev pub last_id : List Member → ℕ
last_id [] = 0
last_id (m ∷ []) = m.id
last_id (m ∷ n ∷ l) = last_id (n ∷ l)

-- rule 7.10: the benefits of a person among some members, by what the lines before them hold
abbrev pub sum_in : Head → (person : ℕ) → List Member → ℕ
sum_in h = person_sum (plan_in h) h.rows

-- what the rules refuse of a member after those before it
abbrev pub refusal_after : Head → (before : List Member) → Member → ℕ
refusal_after h before m = line_refusal (plan_in h) h.rows (last_id before) (sum_in h m.person before) m

abbrev pub tail_line : Head → (members : List Member) → Tail → Verdict
tail_line h members (listed m) = right (refusal_after h members m) (people h (members ++ m ∷ []))
tail_line h members (end n) = cond (eqb n (length members)) (right 0 (ended h members)) (wrong 0 wrong_count)
tail_line h members surplus = wrong 0 surplus_member
tail_line h members neither = wrong 0 member_form

-- ---- any line; `ahead` is the line after it, as far as it goes, and only an amendment looks at it. Refusal 3: a line after the end
unfoldable pub verdict_of : State → (line ahead : List ℕ) → Verdict
verdict_of (heading terms) line ahead = term_line terms (term_form (length terms) line)
verdict_of (amending h) line ahead =
    cond (begins line) (amend_line h ahead (amend_form line)) (row_line h (row_form (due_age h.rows) line))
verdict_of (table h) line ahead = row_line h (row_form (due_age h.rows) line)
verdict_of (people h members) line ahead = tail_line h members (tail_of (leb most_members (length members)) line)
verdict_of (ended h members) line ahead = wrong 0 bytes_after

-- ---- computed: amendments after a heading with a unit of 10000 under flat, so that 90000 may be added
abbrev listing : List Amendment → State
listing l = amending (record { terms = 1000 ∷ 65 ∷ 1 ∷ 1 ∷ 10000 ∷ 0 ∷ 4 ∷ 2000 ∷ 2 ∷ []; amends = l; rows = [] })

-- what is refused of a line: by its ranges, and by its form
abbrev ranges_of : Verdict → ℕ
ranges_of (wrong range number) = range
ranges_of (right range next) = range

abbrev form_of : Verdict → ℕ
form_of (wrong range number) = number
form_of (right range next) = 0

-- and the unit by which members are then judged
abbrev unit_in : State → ℕ
unit_in (heading terms) = 0
unit_in (amending h) = (plan_in h).unit
unit_in (table h) = (plan_in h).unit
unit_in (people h members) = (plan_in h).unit
unit_in (ended h members) = (plan_in h).unit

abbrev unit_after : Verdict → ℕ
unit_after (wrong range number) = 0
unit_after (right range next) = unit_in next

unfoldable pub amending_figures : List Figure
amending_figures =
    -- the unit beyond its range: asked where the bytes ahead are no amendment's
    (ranges_of (verdict_of (listing []) (bytes "amend=1,0,90000,0") []) is 0)
    ∷ (ranges_of (verdict_of (listing []) (bytes "amend=1,0,90001,0") []) is 55)
    ∷ (ranges_of (verdict_of (listing []) (bytes "amend=1,0,90001,0") (bytes "amend=")) is 0)
    ∷ (ranges_of (verdict_of (listing []) (bytes "amend=1,0,90001,0") (bytes "amend")) is 55)
    -- a twenty-first, by its form, and a field of it before that
    ∷ (form_of (verdict_of (listing (many 19 1)) (bytes "amend=20,0,0,0") []) is 0)
    ∷ (form_of (verdict_of (listing (many 20 1)) (bytes "amend=21,0,0,0") []) is 53)
    ∷ (ranges_of (verdict_of (listing (many 20 1)) (bytes "amend=21,0,0,0") []) is 0)
    ∷ (ranges_of (verdict_of (listing (many 20 1)) (bytes "amend=21,0,0,2") []) is 11)
    ∷ (form_of (verdict_of (listing (many 20 1)) (bytes "amend=21,0,0") []) is 10)
    -- another line is the first row's
    ∷ (form_of (verdict_of (listing (many 20 1)) (bytes "amends=21,0,0,0") []) is 10)
    ∷ (form_of (verdict_of (listing (many 20 1)) (bytes "row=15,0,0,0,1000") []) is 0)
    -- the unit valued
    ∷ (unit_after (verdict_of (listing (amend 1 0 250 0 ∷ amend 2 0 1000 1 ∷ [])) (bytes "amend=3,2,500,0") []) is 10250)
    ∷ []

pub amending_is : all_are amending_figures ≡ true
unfolding amending_figures has_of upto_of past_of digits_of whole_of values_of keyed_of amend_form row_form row_rules listedAmong stands in_force_after additions amendment_rules unit_refusal verdict_of
amending_is = refl

-- rules 5.1, 5.2 and 12.4: what line k gives, where the ranges are settled or not
abbrev pub judged : (ranges : Bool) → (k : ℕ) → Verdict → Outcome State
judged ranges k (wrong range number) = passing (settled ranges range) k (refusal number k)
judged ranges k (right range next) = passing (settled ranges range) k (values next)

unfoldable pub step : (ranges : Bool) → (k : ℕ) → State → (line ahead : List ℕ) → Outcome State
step ranges k state line ahead = judged ranges k (verdict_of state line ahead)
