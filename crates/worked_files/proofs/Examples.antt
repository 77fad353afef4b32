-- Worked files of RULES section 14, and others, computed from the definitions.
use Prim.Native.String.{String}
use Prim.Native.Nat.{ℕ}
use mathlib.Core.Path.{◌≡◌, refl}
use mathlib.Core.Bool.{true, false}
use mathlib.Core.List.{List, ◌++◌}
use lib.ListN.{length}
use Rattle.rounding.specs.Nearest.{nearest}
use Rattle.fractions.specs.Ratio.{◌over◌, whole, ◌⊕◌, ◌⊗◌, inverse}
use Rattle.fields.specs.Text.{bytes}
use Rattle.fields.specs.Split.{has_of, upto_of, past_of, same_of}
use Rattle.fields.specs.Numbers.{digits_of, whole_of, amount_of}
use Rattle.fields.specs.Values.{values_of, keyed_of}
use Rattle.plan.specs.declared.Plan.{Plan}
use Rattle.plan.specs.Benefit.{formula_of, pay, pays, exact_benefit, B}
use Rattle.row_rules.specs.Table.{row_rules}
use Rattle.amendments.specs.Force.{listed as listedAmong, stands, in_force_after, additions}
use Rattle.amendments.specs.Judging.{amendment_rules, unit_refusal}
use Rattle.rule_order.specs.Acceptance.{field_rules, benefit_rules, member_refusal, person_sum, line_refusal}
use Rattle.rules.specs.Outcome.{Outcome, values, refusal}
use Rattle.walk.specs.Terms.{formula_word, method_word, term_forms}
use Rattle.walk.specs.Lines.{amend_form, row_form, listed, end, surplus, neither, tail_of}
use Rattle.walk.specs.Step.{verdict_of, step}
use Rattle.walk.specs.Walk.{Case, valued_plan, lines_of, rest_of, folded, walk_from, walk_of}

-- ---- a line after the table
pub record Tails : Type 0 where
  pub member : tail_of false (bytes "member=7,9,63,64,0.00") ≡ listed (record { id = 7; person = 9; entry = 63; age = 64; salary = 0 })
  -- rule 14.25: no person, or a field too many
  pub four : tail_of false (bytes "member=7,63,64,0.00") ≡ neither
  pub six : tail_of false (bytes "member=7,9,9,63,64,0.00") ≡ neither
  -- rule 14.14: a salary with a tail
  pub tail : tail_of false (bytes "member=7,1,63,64,4125.50.75") ≡ neither
  -- refusal 27: after 1,000 members the form is not asked for
  pub surplus : tail_of true (bytes "member=") ≡ surplus
  -- rule 4.6: the count of members, as a whole number
  pub end : tail_of true (bytes "end=1000") ≡ end 1000
  pub end_form : tail_of false (bytes "end=01") ≡ neither

pub tails_are : Tails
unfolding has_of upto_of past_of digits_of whole_of amount_of values_of keyed_of tail_of
tails_are = record { member = refl; four = refl; six = refl; tail = refl; surplus = refl; end = refl; end_form = refl }

-- ---- rule 14.1, the short table, after a heading and before the lines that follow
abbrev short_table : (heading : List ℕ) → (rest : String) → List ℕ
short_table heading rest = heading ++ bytes "row=15,0,0,0,1000\nrow=16,0,0,0,1000\nrow=17,0,0,0,1000\nrow=18,0,0,0,1000\nrow=19,0,0,0,1000\nrow=20,0,0,0,1000\nrow=21,0,0,0,1000\nrow=22,0,0,0,1000\nrow=23,0,0,0,1000\nrow=24,0,0,0,1000\nrow=25,0,0,0,1000\nrow=26,0,0,0,1000\nrow=27,0,0,0,1000\nrow=28,0,0,0,1000\nrow=29,0,0,0,1000\nrow=30,0,0,0,1000\nrow=31,0,0,0,1000\nrow=32,0,0,0,1000\nrow=33,0,0,0,1000\nrow=34,0,0,0,1000\nrow=35,0,0,0,1000\nrow=36,0,0,0,1000\nrow=37,0,0,0,1000\nrow=38,0,0,0,1000\nrow=39,0,0,0,1000\nrow=40,0,0,0,1000\nrow=41,0,0,0,1000\nrow=42,0,0,0,1000\nrow=43,0,0,0,1000\nrow=44,0,0,0,1000\nrow=45,0,0,0,1000\nrow=46,0,0,0,1000\nrow=47,0,0,0,1000\nrow=48,0,0,0,1000\nrow=49,0,0,0,1000\nrow=50,0,0,0,1000\nrow=51,0,0,0,1000\nrow=52,0,0,0,1000\nrow=53,0,0,0,1000\nrow=54,0,0,0,1000\nrow=55,0,0,0,1000\nrow=56,0,0,0,1000\nrow=57,0,0,0,1000\nrow=58,0,0,0,1000\nrow=59,0,0,0,1000\nrow=60,0,0,0,1000\nrow=61,0,0,0,1000\nrow=62,0,0,0,1000\nrow=63,0,0,0,1000\nrow=64,0,0,0,1100\nrow=65,1000000,0,0,1100\nrow=66,1000000,0,0,1100\nrow=67,1000000,0,0,1100\nrow=68,1000000,0,0,1100\nrow=69,1000000,0,0,1100\nrow=70,1000000,0,0,1100\nrow=71,1000000,0,0,1100\nrow=72,1000000,0,0,1100\nrow=73,1000000,0,0,1100\nrow=74,1000000,0,0,1100\nrow=75,1000000,0,0,1100\nrow=76,1000000,0,0,1100\nrow=77,1000000,0,0,1100\nrow=78,1000000,0,0,1100\nrow=79,1000000,0,0,1100\nrow=80,1000000,0,0,1100\nrow=81,1000000,0,0,1100\nrow=82,1000000,0,0,1100\nrow=83,1000000,0,0,1100\nrow=84,1000000,0,0,1100\nrow=85,1000000,0,0,1100\nrow=86,1000000,0,0,1100\nrow=87,1000000,0,0,1100\nrow=88,1000000,0,0,1100\nrow=89,1000000,0,0,1100\nrow=90,1000000,0,0,1100\nrow=91,1000000,0,0,1100\nrow=92,1000000,0,0,1100\nrow=93,1000000,0,0,1100\nrow=94,1000000,0,0,1100\nrow=95,1000000,0,0,1100\nrow=96,1000000,0,0,1100\nrow=97,1000000,0,0,1100\nrow=98,1000000,0,0,1100\nrow=99,1000000,0,0,1100\nrow=100,1000000,0,0,1100\nrow=101,1000000,0,0,1100\nrow=102,1000000,0,0,1100\nrow=103,1000000,0,0,1100\nrow=104,1000000,0,0,1100\nrow=105,1000000,0,0,1100\nrow=106,1000000,0,0,1100\nrow=107,1000000,0,0,1100\nrow=108,1000000,0,0,1100\nrow=109,1000000,0,0,1100\nrow=110,1000000,0,0,1100\nrow=111,1000000,0,0,1100\nrow=112,1000000,0,0,1100\nrow=113,1000000,0,0,1100\nrow=114,1000000,0,0,1100\nrow=115,1000000,0,0,1100\nrow=116,1000000,0,0,1100\nrow=117,1000000,0,0,1100\nrow=118,1000000,0,0,1100\nrow=119,1000000,0,0,1100\nrow=120,1000000,0,0,1100\n" ++ bytes rest

-- rule 14.2: the plan of the short case, with a third line
abbrev short_file : (pay rest : String) → List ℕ
short_file pay =
    short_table (bytes "interest=1000\nretire=65\n" ++ bytes pay ++ bytes "\nformula=flat\nunit=10000\naverage=0\nmethod=CD\nassets=20.00\nyears=2\n")

-- rules 14.17 and 14.24: a plan by which members reach the ceiling
abbrev ceiling_file : (rest : String) → List ℕ
ceiling_file =
    short_table (bytes "interest=1000\nretire=60\npay=1\nformula=final\nunit=500\naverage=1\nmethod=CD\nassets=20.00\nyears=2\n")

-- what a file holds, by its plan and the count of its members; or its refusal
pub data Answer : Type 0 where
  holds : Plan → (members : ℕ) → Answer
  refused : (number line : ℕ) → Answer

abbrev answer : Outcome Case → Answer
answer (values c) = holds c.plan (length c.members)
answer (refusal number line) = refused number line

-- the count of the members of a file that is accepted, and else 0
abbrev members : Outcome Case → ℕ
members (values c) = length c.members
members (refusal number line) = 0

abbrev short_plan : ℕ → Plan
short_plan times =
    record { interest = 1000; retire = 65; pay = times; formula = 1; unit = 10000; average = 0; method = 4; assets = 2000; years = 2 }

-- reading, for its form
pub record Readings : Type 0 where
  -- rule 14.15: no bytes
  pub empty : walk_of false (bytes "") ≡ refusal 2 1
  -- rule 14.2
  pub worked : answer (walk_of false (short_file "pay=1" "member=7,1,63,64,0.00\nend=1\n")) ≡ holds (short_plan 1) 1
  -- rule 14.16: no members
  pub alone : answer (walk_of false (short_file "pay=1" "end=0\n")) ≡ holds (short_plan 1) 0
  pub wrong_count : walk_of false (short_file "pay=1" "end=1\n") ≡ refusal 4 116
  pub bytes_after : walk_of false (short_file "pay=1" "end=0\n0") ≡ refusal 3 117
  pub cut_off : walk_of false (short_file "pay=1" "end=0") ≡ refusal 2 116
  -- rule 14.14
  pub tail : walk_of false (short_file "pay=1" "member=7,1,63,64,4125.50.75\nend=1\n") ≡ refusal 20 116
  -- rule 14.23: its form alone is read, and another line isn't taken for it
  pub half_years : answer (walk_of false (short_file "pay=2" "end=0\n")) ≡ holds (short_plan 2) 0
  pub no_pay : walk_of false (bytes "interest=1000\nretire=65\nformula=flat\n") ≡ refusal 10 3
  pub pay_form : walk_of false (bytes "interest=1000\nretire=65\npay=012\n") ≡ refusal 10 3
  -- rule 14.25: reading doesn't look at a person's range or sum
  pub unranged : answer (walk_of false (short_file "pay=1" "member=7,0,63,64,0.00\nend=1\n")) ≡ holds (short_plan 1) 1
  pub unsummed : members (walk_of false (ceiling_file "member=7,1,30,40,666666.67\nmember=8,1,30,40,666666.67\nend=2\n")) ≡ 2

pub readings_are : Readings
unfolding has_of upto_of past_of same_of digits_of whole_of amount_of values_of keyed_of formula_word method_word term_forms row_form tail_of verdict_of step lines_of rest_of folded walk_from walk_of
readings_are =
    record {
      empty = refl;
      worked = refl;
      alone = refl;
      wrong_count = refl;
      bytes_after = refl;
      cut_off = refl;
      tail = refl;
      half_years = refl;
      no_pay = refl;
      pay_form = refl;
      unranged = refl;
      unsummed = refl;
    }

-- accepting, for its ranges too
pub record Acceptances : Type 0 where
  -- rule 14.2
  pub worked : answer (walk_of true (short_file "pay=1" "member=7,1,63,64,0.00\nend=1\n")) ≡ holds (short_plan 1) 1
  -- rule 14.16
  pub alone : answer (walk_of true (short_file "pay=1" "end=0\n")) ≡ holds (short_plan 1) 0
  -- rule 14.22: paid by the month
  pub monthly : answer (walk_of true (short_file "pay=12" "end=0\n")) ≡ holds (short_plan 12) 0
  -- rule 14.23, and after a wrong line before it
  pub half_years : walk_of true (bytes "interest=1000\nretire=65\npay=2\n") ≡ refusal 11 3
  pub after_retire : walk_of true (bytes "interest=1000\nretire=49\npay=2\n") ≡ refusal 11 2
  -- rule 12.4: an age past retirement comes before a cut in the line after it
  pub range_before_cut : walk_of true (short_file "pay=1" "member=7,1,63,66,0.00\nx") ≡ refusal 23 116
  -- rule 14.25: 21, 28 and 22 on one line
  pub id_before_person : walk_of true (short_file "pay=1" "member=0,0,14,64,0.00\n") ≡ refusal 21 116
  pub person_before_entry : walk_of true (short_file "pay=1" "member=7,0,14,64,0.00\n") ≡ refusal 28 116

pub acceptances_are : Acceptances
unfolding has_of upto_of past_of same_of digits_of whole_of amount_of values_of keyed_of formula_word method_word term_forms row_form tail_of verdict_of step lines_of rest_of folded walk_from walk_of row_rules field_rules benefit_rules member_refusal person_sum line_refusal in_force_after additions nearest ◌over◌ whole exact_benefit B formula_of
acceptances_are =
    record { worked = refl; alone = refl; monthly = refl; half_years = refl; after_retire = refl; range_before_cut = refl; id_before_person = refl; person_before_entry = refl }

-- rule 14.24: the lines of one person, together
pub record Sums : Type 0 where
  pub reached : members (walk_of true (ceiling_file "member=7,1,30,40,333333.33\nmember=8,1,30,40,333333.33\nend=2\n")) ≡ 2
  pub passed : walk_of true (ceiling_file "member=7,1,30,40,333333.33\nmember=8,1,30,40,333333.34\nend=2\n") ≡ refusal 29 117
  -- whole cents are summed
  pub rounded : members (walk_of true (ceiling_file "member=7,1,30,40,333333.35\nmember=8,1,30,40,333333.32\nend=2\n")) ≡ 2
  -- another person's don't count, and lines between don't hide what was before them; 29 comes before a later line's fault
  pub two_persons : members (walk_of true (ceiling_file "member=7,1,30,40,666666.67\nmember=8,2,30,40,666666.67\nend=2\n")) ≡ 2
  pub apart : walk_of true (ceiling_file "member=7,1,30,40,666666.67\nmember=8,2,30,40,666666.67\nmember=9,1,30,40,0.01\nend=1\n") ≡ refusal 29 118
  -- rule 14.25: 25 before 29 on one line
  pub own_before_sum : walk_of true (ceiling_file "member=7,1,30,40,333333.33\nmember=8,1,30,40,666666.68\n") ≡ refusal 25 117

pub sums_are : Sums
unfolding has_of upto_of past_of same_of digits_of whole_of amount_of values_of keyed_of formula_word method_word term_forms row_form tail_of verdict_of step lines_of rest_of folded walk_from walk_of row_rules field_rules benefit_rules member_refusal person_sum line_refusal in_force_after additions nearest ◌over◌ whole ◌⊕◌ ◌⊗◌ inverse pay pays exact_benefit B formula_of
sums_are = record { reached = refl; passed = refl; rounded = refl; two_persons = refl; apart = refl; own_before_sum = refl }

-- ---- amendments: rules 14.26 and 14.27. The heading has a unit of 10000 under flat, so that 90000 may be added
abbrev amended : (rest : String) → List ℕ
amended rest =
    bytes "interest=1000\nretire=65\npay=1\nformula=flat\nunit=10000\naverage=0\nmethod=CD\nassets=20.00\nyears=2\n" ++ bytes rest

abbrev twenty : (rest : String) → List ℕ
twenty rest =
    amended "amend=1,0,0,0\namend=2,0,0,0\namend=3,0,0,0\namend=4,0,0,0\namend=5,0,0,0\namend=6,0,0,0\namend=7,0,0,0\namend=8,0,0,0\namend=9,0,0,0\namend=10,0,0,0\namend=11,0,0,0\namend=12,0,0,0\namend=13,0,0,0\namend=14,0,0,0\namend=15,0,0,0\namend=16,0,0,0\namend=17,0,0,0\namend=18,0,0,0\namend=19,0,0,0\namend=20,0,0,0\n" ++ bytes rest

pub record Amending : Type 0 where
  -- the file ends where an amendment or the first row is due
  pub due : walk_of true (amended "amend=1,0,90000,0\n") ≡ refusal 2 11
  -- beyond the range, at the last amendment; reading doesn't look at it
  pub beyond : walk_of true (amended "amend=1,0,90001,0\n") ≡ refusal 55 10
  pub beyond_late : walk_of true (amended "amend=1,0,90001,0\namend=2,0,0,1\nrow=") ≡ refusal 55 11
  pub unread : walk_of false (amended "amend=1,0,90001,0\n") ≡ refusal 2 11
  -- where the bytes go on as an amendment does, whole or not, it is put off
  pub put_off : walk_of true (amended "amend=1,0,90001,0\namend=") ≡ refusal 2 11
  pub put_off_wrong : walk_of true (amended "amend=1,0,90001,0\namend=\n") ≡ refusal 10 11
  pub not_put_off : walk_of true (amended "amend=1,0,90001,0\namend") ≡ refusal 55 10
  -- one that rests on a struck one isn't in force, and one that rests on it isn't either
  pub struck : walk_of true (amended "amend=1,0,1,1\namend=2,1,90001,0\namend=3,2,90001,0\n") ≡ refusal 2 13
  -- the refusals of a line, in order: 10, 11, 53, 54, 55
  pub three : walk_of true (amended "amend=1,0,90001\n") ≡ refusal 10 10
  pub field : walk_of true (amended "amend=5,0,0,0\namend=5,5,90001,2\n") ≡ refusal 11 11
  pub twice : walk_of true (amended "amend=5,0,0,0\namend=5,6,90001,0\n") ≡ refusal 53 11
  pub own_number : walk_of true (amended "amend=5,5,90001,0\n") ≡ refusal 54 10
  -- a twenty-first: by its form, its field, its number, and where it is cut
  pub one_more : walk_of true (twenty "amend=21,0,0,0\n") ≡ refusal 53 30
  pub one_more_read : walk_of false (twenty "amend=1000,0,0,0\n") ≡ refusal 53 30
  pub one_more_field : walk_of true (twenty "amend=1000,0,0,0\n") ≡ refusal 11 30
  pub one_more_form : walk_of false (twenty "amend=21,0,0\n") ≡ refusal 10 30
  pub one_more_cut : walk_of false (twenty "amend=21,0,0,0") ≡ refusal 2 30
  -- before the last term, and after a row
  pub early : walk_of false (bytes "interest=1000\namend=1,0,0,0\n") ≡ refusal 10 2
  pub late : walk_of false (amended "row=15,0,0,0,1000\namend=1,0,0,0\n") ≡ refusal 10 11

pub lines_are : Amending
unfolding has_of upto_of past_of same_of digits_of whole_of amount_of values_of keyed_of formula_word method_word term_forms amend_form row_form verdict_of step lines_of rest_of folded walk_from walk_of row_rules listedAmong stands in_force_after additions amendment_rules unit_refusal
lines_are =
    record {
      due = refl;
      beyond = refl;
      beyond_late = refl;
      unread = refl;
      put_off = refl;
      put_off_wrong = refl;
      not_put_off = refl;
      struck = refl;
      three = refl;
      field = refl;
      twice = refl;
      own_number = refl;
      one_more = refl;
      one_more_read = refl;
      one_more_field = refl;
      one_more_form = refl;
      one_more_cut = refl;
      early = refl;
      late = refl;
    }

-- a whole file: three amendments, of which the struck second puts out the third, and all lines after them moved down by three
abbrev valued_unit : Outcome Case → ℕ
valued_unit (values c) = (valued_plan c).unit
valued_unit (refusal number line) = 0

abbrev amended_file : (amends rest : String) → List ℕ
amended_file amends = short_table (amended amends)

pub record Amended : Type 0 where
  pub unit : valued_unit (walk_of true (amended_file "amend=1,0,250,0\namend=2,0,1000,1\namend=3,2,500,0\n" "member=7,1,63,64,0.00\nend=1\n")) ≡ 10250
  pub heading : answer (walk_of true (amended_file "amend=1,0,250,0\namend=2,0,1000,1\namend=3,2,500,0\n" "member=7,1,63,64,0.00\nend=1\n")) ≡ holds (short_plan 1) 1
  pub moved : walk_of true (amended_file "amend=1,0,250,0\namend=2,0,1000,1\namend=3,2,500,0\n" "member=7,1,63,66,0.00\nend=1\n") ≡ refusal 23 119

pub amended_is : Amended
unfolding has_of upto_of past_of same_of digits_of whole_of amount_of values_of keyed_of formula_word method_word term_forms amend_form row_form tail_of verdict_of step lines_of rest_of folded walk_from walk_of row_rules listedAmong stands amendment_rules unit_refusal field_rules benefit_rules member_refusal person_sum line_refusal in_force_after additions nearest ◌over◌ whole exact_benefit B formula_of
amended_is = record { unit = refl; heading = refl; moved = refl }
