-- The refusal numbers, rule 12.3, each by one name. 13 and 26 are retired, and no rule uses them again.
use Rattle.std.specs.Prelude.{ℕ}
use Rattle.std.specs.declared.result.Result.{Result}
use Rattle.std.specs.declared.result.Result.TheVariants.{Ok, Err}
use Rattle.rules.specs.declared.refusals.Refusal.{Refusal}
use Rattle.rules.specs.declared.refusals.Refusal.TheVariants.{TooLarge, CutOff, BytesAfter, WrongCount, PlanForm, OutOfRange, WrongAverage, WrongLastDeath, WrongWeight, WrongAmendment, UnlistedRest, HighUnit, MemberForm, WrongId, WrongEntry, WrongAge, WrongSalary, HighBenefit, SurplusMember, WrongPerson, HighSum, NoRoom}

-- ---- the file: it is too large; it ends where a line is due; bytes follow the end line; the end line has another count
abbrev pub too_large : ℕ
too_large = 1

abbrev pub cut_off : ℕ
cut_off = 2

abbrev pub bytes_after : ℕ
bytes_after = 3

abbrev pub wrong_count : ℕ
wrong_count = 4

-- ---- the plan: the form of a term, an amendment or a row; a number out of its range; the average; death at 120; a weight; the number of an amendment,
-- or one amendment too many; what an amendment rests on; the unit as it is valued
abbrev pub plan_form : ℕ
plan_form = 10

abbrev pub out_of_range : ℕ
out_of_range = 11

abbrev pub wrong_average : ℕ
wrong_average = 12

abbrev pub wrong_last_death : ℕ
wrong_last_death = 14

abbrev pub wrong_weight : ℕ
wrong_weight = 15

abbrev pub wrong_amendment : ℕ
wrong_amendment = 53

abbrev pub unlisted_rest : ℕ
unlisted_rest = 54

abbrev pub high_unit : ℕ
high_unit = 55

-- ---- a line after the table: its form; the id, entry age, age, salary and benefit of a member; one member too many; the person, and the benefits
-- of the person's lines together
abbrev pub member_form : ℕ
member_form = 20

abbrev pub wrong_id : ℕ
wrong_id = 21

abbrev pub wrong_entry : ℕ
wrong_entry = 22

abbrev pub wrong_age : ℕ
wrong_age = 23

abbrev pub wrong_salary : ℕ
wrong_salary = 24

abbrev pub high_benefit : ℕ
high_benefit = 25

abbrev pub surplus_member : ℕ
surplus_member = 27

abbrev pub wrong_person : ℕ
wrong_person = 28

abbrev pub high_sum : ℕ
high_sum = 29

-- ---- the output: no room for the lines
abbrev pub no_room : ℕ
no_room = 30

-- ---- what the code answers
-- the number of each refusal
abbrev pub number : Refusal → ℕ
number TooLarge = too_large
number CutOff = cut_off
number BytesAfter = bytes_after
number WrongCount = wrong_count
number PlanForm = plan_form
number OutOfRange = out_of_range
number WrongAverage = wrong_average
number WrongLastDeath = wrong_last_death
number WrongWeight = wrong_weight
number WrongAmendment = wrong_amendment
number UnlistedRest = unlisted_rest
number HighUnit = high_unit
number MemberForm = member_form
number WrongId = wrong_id
number WrongEntry = wrong_entry
number WrongAge = wrong_age
number WrongSalary = wrong_salary
number HighBenefit = high_benefit
number SurplusMember = surplus_member
number WrongPerson = wrong_person
number HighSum = high_sum
number NoRoom = no_room

-- of an answer: 0 where nothing is refused, else the number
abbrev pub verdict : {A : Type 0} → Result A Refusal → ℕ
verdict (Ok a) = 0
verdict (Err refusal) = number refusal
