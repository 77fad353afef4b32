-- Rules 5.1, 5.2 and 12.4 as statements of the walk: `walk_of false` reads a case file for its form, `walk_of true` accepts it for its ranges too.
use Rattle.std.specs.Prelude.{ℕ, zero, suc, ◌+◌, ◌≤◌, ◌<◌, ◌≡◌, List, [], ◌++◌, Bool, true, false, ◌⊎◌, length, take, leb}
use Rattle.fields.specs.Split.{seek_of, has_of, upto_of, past_of}
use Rattle.rates.specs.Table.{ages}
use Rattle.rules.specs.Refusals.{too_large, cut_off, bytes_after, wrong_count, plan_form, out_of_range, wrong_average, wrong_last_death, wrong_weight, wrong_amendment, unlisted_rest, high_unit, member_form, wrong_id, wrong_entry, wrong_age, wrong_salary, high_benefit, surplus_member, wrong_person, high_sum}
use Rattle.amendments.specs.Force.{in_force, additions}
use Rattle.amendments.specs.Judging.{most_amendments}
use Rattle.plan.specs.declared.Amendment.{Amendment}
use Rattle.plan.specs.declared.Member.{Member}
use Rattle.rules.specs.Outcome.{Outcome, values, refusal}
use Rattle.walk.specs.Terms.{term_forms}
use Rattle.walk.specs.Lines.{begins, listed, most_members, tail_of}
use Rattle.walk.specs.Step.{Head, headed, amending, people, last_id, sum_in, step}
use Rattle.walk.specs.Walk.{Case, walk_from, walk_of}
use Rattle.walk.specs.Kept.{AcceptedCase}

-- ---- the numbers, by the lines that they are for: of form, and of ranges
pub data Section : Type 0 where
  in_heading : Section
  in_list : Section
  in_table : Section
  in_members : Section
  past_end : Section

pub data FormOf : Section → ℕ → Type 0 where
  term_cut : FormOf in_heading cut_off
  term_form_lem : FormOf in_heading plan_form
  amend_cut : FormOf in_list cut_off
  amend_form_lem : FormOf in_list plan_form
  twenty_first : FormOf in_list wrong_amendment
  row_cut : FormOf in_table cut_off
  row_form_lem : FormOf in_table plan_form
  tail_cut : FormOf in_members cut_off
  count : FormOf in_members wrong_count
  tail_form : FormOf in_members member_form
  surplus : FormOf in_members surplus_member
  after_end : FormOf past_end bytes_after

pub data RangeOf : Section → ℕ → Type 0 where
  of_a_term : RangeOf in_heading out_of_range
  of_average : RangeOf in_heading wrong_average
  of_a_field : RangeOf in_list out_of_range
  of_order : RangeOf in_list wrong_amendment
  of_rest : RangeOf in_list unlisted_rest
  of_unit : RangeOf in_list high_unit
  of_a_rate : RangeOf in_table out_of_range
  of_death : RangeOf in_table wrong_last_death
  of_weight : RangeOf in_table wrong_weight
  of_id : RangeOf in_members wrong_id
  of_person : RangeOf in_members wrong_person
  of_entry : RangeOf in_members wrong_entry
  of_age : RangeOf in_members wrong_age
  of_salary : RangeOf in_members wrong_salary
  of_benefit : RangeOf in_members high_benefit
  of_sum : RangeOf in_members high_sum

-- rule 5.1: the numbers of form; rule 12.3: those of ranges
pub data FormNumber : ℕ → Type 0 where
  too_large_number : FormNumber too_large
  of_line : {n : ℕ} → (section : Section) → FormOf section n → FormNumber n

pub data RangeNumber : ℕ → Type 0 where
  of_line : {n : ℕ} → (section : Section) → RangeOf section n → RangeNumber n

-- ---- which lines a number can have: 0 for the file's size, and else those of its section
-- rule 1.7: 9 lines of terms, at most 20 amendments and one too many, 106 rows, at most 1,000 members and the end. The rows and all after them stand as
-- many lines further down as there are amendments
abbrev pub LinesOf : Section → ℕ → Type 0
LinesOf in_heading l = (1 ≤ l) × (l ≤ length term_forms)
LinesOf in_list l = (length term_forms < l) × (l ≤ length term_forms + most_amendments + 1)
LinesOf in_table l = (length term_forms < l) × (l ≤ length term_forms + most_amendments + ages)
LinesOf in_members l =
    (length term_forms + ages < l) × (l ≤ length term_forms + most_amendments + ages + most_members + 1)
LinesOf past_end l =
    (length term_forms + ages + 1 < l) × (l ≤ length term_forms + most_amendments + ages + most_members + 2)

pub data Placed : (number line : ℕ) → Type 0 where
  no_line : Placed too_large 0
  of_form : {n l : ℕ} → (section : Section) → FormOf section n → LinesOf section l → Placed n l
  of_range : {n l : ℕ} → (section : Section) → RangeOf section n → LinesOf section l → Placed n l

abbrev pub RefusalsArePlaced : Type 0
RefusalsArePlaced = (ranges : Bool) (s : List ℕ) (n l : ℕ) → walk_of ranges s ≡ refusal n l → Placed n l

-- ---- rule 12.4: the first refusal
-- the bytes through the end of line n; all of them where they end before it
unfoldable pub through : (n : ℕ) → List ℕ → List ℕ
through zero s = []
through (suc n) s = take (seek_of 10 s + 1) s ++ through n (past_of 10 s)

-- a refusal at line l rests on the bytes through the end of line l: whatever follows them, it stands. But 1 is of the length alone; 2 says that
-- line l does not end, so that what follows must not end it; and 55 that it is the last amendment's, so that what follows must not begin amend=
abbrev pub RestsOnLines : Type 0
RestsOnLines =
    (ranges : Bool) (s after : List ℕ) (n l : ℕ) → walk_of ranges s ≡ refusal n l → (n ≡ too_large → ⊥) → (n ≡ cut_off → has_of 10 after ≡ false) → (n ≡ high_unit → begins (upto_of 10 after) ≡ false) → length (through l s ++ after) ≤ 65536 → walk_of ranges (through l s ++ after) ≡ refusal n l

-- of the members before it, line k is judged by how many they are (rules 4.1 and 4.6), by the last id (rule 4.2) and, where it is a member's, by
-- the sum of that person's benefits (rule 7.10), and by nothing else: with other members that have these in common it gets the same refusal
abbrev pub RestsOnIdAndSum : Type 0
RestsOnIdAndSum =
    (ranges : Bool) (k : ℕ) (h : Head) (some others : List Member) (line ahead : List ℕ) → length some ≡ length others → last_id some ≡ last_id others → ((m : Member) → tail_of (leb most_members (length others)) line ≡ listed m → sum_in h m.person some ≡ sum_in h m.person others) → (n l : ℕ) → step ranges k (people h some) line ahead ≡ refusal n l → step ranges k (people h others) line ahead ≡ refusal n l

-- ---- a list that adds nothing
-- what the same lines give after a list of amendments: the list with the case, and each refusal as many lines further down
abbrev pub moved_down : List Amendment → Outcome Case → Outcome Case
moved_down l (values c) = values (record { plan = c.plan; amends = l; rows = c.rows; members = c.members })
moved_down l (refusal number line) = refusal number (line + length l)

-- rule 2.13: from the state after the list on, whatever bytes follow whose first line is no amendment's, a list with no additions in force changes
-- nothing else
abbrev pub NoAdditionsMove : Type 0
NoAdditionsMove =
    (ranges : Bool) (k : ℕ) (terms : List ℕ) (l : List Amendment) (s : List ℕ) → additions (in_force l) ≡ 0 → begins (upto_of 10 s) ≡ false
    → walk_from ranges (k + length l) (amending (record { terms = terms; amends = l; rows = [] })) s ≡ moved_down l (walk_from ranges k (amending (headed terms)) s)

-- ---- reading
-- rule 5.1: a refusal of reading has a number of form
abbrev pub ReadingGivesForm : Type 0
ReadingGivesForm = (s : List ℕ) (n l : ℕ) → walk_of false s ≡ refusal n l → FormNumber n

-- a refusal is sooner than another: at an earlier line; or, at the line of a twenty-first amendment, 11 for a field of it before 53
abbrev pub Sooner : (number line n l : ℕ) → Type 0
Sooner number line n l = (line < l) ⊎ ((line ≡ l) × (number ≡ out_of_range) × (n ≡ wrong_amendment))

-- rule 5.2, whichever kind of fault comes first: what reading refuses, accepting refuses too, by the same number and line or by a
-- range's number sooner
pub record RefusedToo (s : List ℕ) (n l : ℕ) : Type 0 where
  pub number : ℕ
  pub line : ℕ
  pub is : walk_of true s ≡ refusal number line
  pub first : ((number ≡ n) × (line ≡ l)) ⊎ (RangeNumber number × Sooner number line n l)

abbrev pub ReadingRefuses : Type 0
ReadingRefuses = (s : List ℕ) (n l : ℕ) → walk_of false s ≡ refusal n l → RefusedToo s n l

-- ---- accepting
-- what accepting refuses is reading's refusal, or a range's
abbrev pub AcceptingRefuses : Type 0
AcceptingRefuses = (s : List ℕ) (n l : ℕ) → walk_of true s ≡ refusal n l → (walk_of false s ≡ refusal n l) ⊎ RangeNumber n

-- the values of a file that is accepted are those that reading found, and keep every rule
abbrev pub AcceptedKeepsRules : Type 0
AcceptedKeepsRules = (s : List ℕ) (c : Case) → walk_of true s ≡ values c → (walk_of false s ≡ values c) × AcceptedCase c

-- and a file whose form is right and whose values keep every rule is accepted
abbrev pub AcceptsWhatKeepsRules : Type 0
AcceptsWhatKeepsRules = (s : List ℕ) (c : Case) → walk_of false s ≡ values c → AcceptedCase c → walk_of true s ≡ values c
