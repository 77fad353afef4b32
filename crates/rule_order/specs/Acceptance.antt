-- Accepting a plan, its amendments, its rows and a member handed in as plain values: rules 5.3 and 5.6, the range rules in the order of the lines. Cents
-- for money.
use Rattle.std.specs.Prelude.{◌≡◌, refl, true, cond, ◌&&◌, List, [], ◌∷◌, ◌++◌, ℕ, ◌+◌, leb, ltb, eqb}
use Rattle.rounding.specs.Nearest.{nearest}
use Rattle.fractions.specs.Ratio.{◌over◌, whole}
use Rattle.rates.specs.ByHand.{Figure, ◌is◌, all_are}
use Rattle.rates.specs.Table.{first_age, ages}
use Rattle.plan.specs.declared.Plan.{Plan}
use Rattle.plan.specs.declared.Amendment.{Amendment}
use Rattle.plan.specs.declared.Member.{Member}
use Rattle.plan.specs.Benefit.{formula_of, exact_benefit, B}
use Rattle.rules.specs.Refusals.{wrong_id, wrong_person, wrong_entry, wrong_age, wrong_salary, high_benefit, high_sum}
use Rattle.rules.specs.Rules.{unless, first_among, between}
use Rattle.rules.specs.Heading.{head_rules}
use Rattle.row_rules.specs.Table.{row_rules, rows_refusal}
use Rattle.amendments.specs.Force.{listed, stands, in_force_after, additions, as_valued, amend}
use Rattle.amendments.specs.Judging.{amendment_rules, unit_refusal, each_refusal, amendments_refusal}

-- rule 5.3, a plan with its rows, one for each age: the heading goes before the table. So it is for a plan as it is valued, which has no list any more
unfoldable pub plan_refusal : Plan → List (List ℕ) → ℕ
plan_refusal p rows = first_among (first_among (head_rules p) ∷ rows_refusal rows first_age ages ∷ [])

-- rule 5.6, a plan with its amendments and its rows: the list is judged after the heading and before the table
unfoldable pub amended_refusal : Plan → List Amendment → List (List ℕ) → ℕ
amended_refusal p l rows =
    first_among (first_among (head_rules p) ∷ amendments_refusal p l ∷ rows_refusal rows first_age ages ∷ [])

-- ---- a member line, by itself
-- rules 4.2, 4.7 and 4.3 to 4.5: the id, the person, the entry age, the age and the salary.
-- `before` is the id of the member before, and 0 where there is none
unfoldable pub field_rules : Plan → (before : ℕ) → Member → List ℕ
field_rules p before m =
    unless (between 1 999999999 m.id && ltb before m.id) wrong_id
    ∷ unless (between 1 999999999 m.person) wrong_person
    ∷ unless (leb 15 m.entry && ltb m.entry p.retire) wrong_entry
    ∷ unless (between m.entry p.retire m.age) wrong_age
    ∷ unless (leb m.salary 100000000) wrong_salary
    ∷ []

-- rule 7.8: B(r) is at most 1000000.00
unfoldable pub benefit_rules : Plan → List (List ℕ) → Member → List ℕ
benefit_rules p rows m = unless (leb (B p rows m p.retire) 100000000) high_benefit ∷ []

-- rule 12.4, in the order of the fields: 21, 28, 22, 23, 24, and then 25
unfoldable pub member_refusal : Plan → List (List ℕ) → (before : ℕ) → Member → ℕ
member_refusal p rows before m = first_among (field_rules p before m ++ benefit_rules p rows m)

-- ---- a member line, after the lines before it
-- rule 7.10: the benefits B(r) of a person's lines among some, summed: in whole cents, as each is rounded
unfoldable pub person_sum : Plan → List (List ℕ) → (person : ℕ) → List Member → ℕ
person_sum p rows person [] = 0
person_sum p rows person (m ∷ l) = cond (eqb m.person person) (B p rows m p.retire) 0 + person_sum p rows person l

-- rules 7.10 and 12.4: 29 after all that the line's own rules refuse. Of the lines before it two numbers count: `before`, the id of the last, and
-- `sum`, the benefits of the same person so far
unfoldable pub line_refusal : Plan → List (List ℕ) → (before sum : ℕ) → Member → ℕ
line_refusal p rows before sum m =
    first_among (member_refusal p rows before m ∷ unless (leb (sum + B p rows m p.retire) 100000000) high_sum ∷ [])

-- both computed: a flat plan of 100.00 for each year, retirement at 65
abbrev flat : Plan
flat = record { interest = 0; retire = 65; pay = 1; formula = 1; unit = 10000; average = 0; method = 1; assets = 0; years = 1 }

-- a person from an entry age on, now 60
abbrev spell : (person entry : ℕ) → Member
spell person entry = record { id = 7; person = person; entry = entry; age = 60; salary = 0 }

unfoldable pub sum_figures : List Figure
sum_figures =
    -- 10 years and 30 years of person 1, with 20 of person 2 between them
    (person_sum flat [] 1 (spell 1 55 ∷ spell 2 45 ∷ spell 1 35 ∷ []) is 400000)
    ∷ (person_sum flat [] 2 (spell 1 55 ∷ spell 2 45 ∷ spell 1 35 ∷ []) is 200000)
    ∷ (person_sum flat [] 3 (spell 1 55 ∷ spell 2 45 ∷ spell 1 35 ∷ []) is 0)
    -- to the ceiling, and a cent above it
    ∷ (line_refusal flat [] 6 99900000 (spell 1 55) is 0)
    ∷ (line_refusal flat [] 6 99900001 (spell 1 55) is 29)
    -- the line's own rules come first: 21, 28, 22
    ∷ (line_refusal flat [] 7 99900001 (spell 0 14) is 21)
    ∷ (line_refusal flat [] 6 99900001 (spell 0 14) is 28)
    ∷ (line_refusal flat [] 6 99900001 (spell 1 14) is 22)
    ∷ []

pub sums_are : all_are sum_figures ≡ true
unfolding sum_figures nearest ◌over◌ whole formula_of exact_benefit B field_rules benefit_rules member_refusal person_sum line_refusal
sums_are = refl

-- a plan with its list and no rows: the heading, the list, and the rows, of which the first has no weight
unfoldable pub plan_figures : List Figure
plan_figures =
    (amended_refusal flat [] [] is 15)
    ∷ (amended_refusal flat (amend 5 5 0 0 ∷ []) [] is 54)
    ∷ (amended_refusal flat (amend 5 0 90000 0 ∷ []) [] is 15)
    ∷ (amended_refusal flat (amend 5 0 90001 0 ∷ []) [] is 55)
    ∷ []

pub plans_are : all_are plan_figures ≡ true
unfolding plan_figures head_rules rows_refusal row_rules listed stands in_force_after additions amendment_rules unit_refusal each_refusal amendments_refusal amended_refusal
plans_are = refl

-- ---- a lone member
-- rules 5.3 and 5.5, a lone member: the plan's refusal comes first, and then the member is judged by the plan as it is valued; no id stands before its
-- own, and no benefit is added to its own
unfoldable pub lone_refusal : Plan → List Amendment → List (List ℕ) → Member → ℕ
lone_refusal p l rows m = first_among (amended_refusal p l rows ∷ line_refusal (as_valued p l) rows 0 0 m ∷ [])
