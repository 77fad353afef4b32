-- RULES section 14, figures worked by hand: those with a P as far as they concern rates, factors, benefits, V, N and L, computed from the definitions as one list. Cents. Beside a benefit or a figure that lies at a half stands that it does; refusal 0 says that the plan and the member are accepted.
use Rattle.std.specs.Prelude.{◌≡◌, refl, true, List, [], ◌∷◌, ◌++◌, ℕ, ◌*◌}
use Rattle.rounding.specs.Nearest.{nearest}
use Rattle.fractions.specs.Ratio.{Ratio, ◌over◌, whole, ◌⊕◌, ◌⊗◌, inverse}
use Rattle.rates.specs.ByHand.{Figure, ◌is◌, all_are}
use Rattle.factors.specs.Recursion.{carried}
use Rattle.rates.specs.Rates.{able, serves, leaves, stays, crowded, rates}
use Rattle.rates.specs.Table.{staying}
use Rattle.factors.specs.Factors.{S, step, A, pension, G, T, Z}
use Rattle.factors.specs.Figures.{short, short_with, factors}
use Rattle.plan.specs.declared.Plan.{Plan}
use Rattle.plan.specs.declared.Amendment.{Amendment}
use Rattle.plan.specs.declared.Member.{Member}
use Rattle.plan.specs.declared.Formula.TheVariants.{Final}
use Rattle.plan.specs.declared.Method.TheVariants.{AB, BD, BP, CD, CP}
use Rattle.plan.specs.Weights.{summed}
use Rattle.plan.specs.Benefit.{formula_of, pay, pays, exact_benefit, B}
use Rattle.rules.specs.Heading.{head_rules}
use Rattle.row_rules.specs.Table.{rows_refusal, row_rules}
use Rattle.amendments.specs.Force.{listed, stands, in_force_after, additions, unit_valued, as_valued, amend}
use Rattle.amendments.specs.Judging.{amendment_rules, unit_refusal, each_refusal, amendments_refusal}
use Rattle.rule_order.specs.Acceptance.{lone_refusal, amended_refusal, plan_refusal, line_refusal, member_refusal, field_rules, benefit_rules}
use Rattle.costs.specs.Setting.{Setting}
use Rattle.costs.specs.Costs.{W, PV, cost, N, L}
use Rattle.costs.specs.Valuation.{setting_of}

-- rules 14.2, 14.22 and 14.23: the plan of the short case, its pensions paid so many times a year
abbrev short_paid : ℕ → Plan
short_paid times =
    record { interest = 1000; retire = 65; pay = times; formula = 1; unit = 10000; average = 0; method = 4; assets = 2000; years = 2 }

-- rule 14.2: the plan and the member of the short case
abbrev pub short_plan : Plan
short_plan = short_paid 1

abbrev pub short_member : Member
short_member = record { id = 7; person = 1; entry = 63; age = 64; salary = 0 }

abbrev pub short_setting : Setting
short_setting = setting_of short_plan short short_member

-- rule 14.22
abbrev monthly_setting : Setting
monthly_setting = setting_of (short_paid 12) short short_member

-- rules 14.6 and 14.7, a benefit from pay, by a formula and an average
abbrev pay_plan : ℕ → ℕ → Plan
pay_plan formula average =
    record { interest = 1000; retire = 65; pay = 1; formula = formula; unit = 200; average = average; method = 4; assets = 2000; years = 2 }

abbrev benefit : ℕ → ℕ → ℕ → ℕ
benefit formula average k = B (pay_plan formula average) short (record { id = 7; person = 1; entry = 63; age = 64; salary = 1000000 }) k

-- rule 14.17, a benefit that lies halfway between the largest that is accepted and a cent more; and the plan of rule 14.24
abbrev ceiling_plan : Plan
ceiling_plan =
    record { interest = 1000; retire = 60; pay = 1; formula = 3; unit = 500; average = 1; method = 4; assets = 2000; years = 2 }

abbrev ceiling_member : ℕ → Member
ceiling_member salary = record { id = 7; person = 1; entry = 30; age = 40; salary = salary }

abbrev ceiling_benefit : Ratio
ceiling_benefit = exact_benefit ceiling_plan short (ceiling_member 66666667) Final 60

-- rule 14.26: three amendments to the short plan, of which the struck second puts out the third
abbrev pub short_list : List Amendment
short_list = amend 1 0 250 0 ∷ amend 2 0 1000 1 ∷ amend 3 2 500 0 ∷ []

abbrev amended_setting : Setting
amended_setting = setting_of (as_valued short_plan short_list) short short_member

-- rule 14.28: by an amendment a benefit passes the ceiling of rule 7.8
abbrev raised_plan : Plan
raised_plan =
    record { interest = 1000; retire = 60; pay = 1; formula = 3; unit = 499; average = 1; method = 4; assets = 2000; years = 2 }

unfoldable pub member_figures : List Figure
member_figures =
    factors
    ++ (plan_refusal short_plan (short_with crowded) is 0)
    ∷ (N short_setting AB 64 is 9091)
    ∷ (L short_setting AB 64 is 9091)
    ∷ (N short_setting BD 64 is 9091)
    ∷ (L short_setting BD 64 is 9091)
    ∷ (N short_setting BP 64 is 9524)
    ∷ (L short_setting BP 64 is 8658)
    ∷ (N short_setting CD 64 is 8658)
    ∷ (L short_setting CD 64 is 9524)
    ∷ (N short_setting CP 64 is 9091)
    ∷ (L short_setting CP 64 is 9091)
    ∷ (N short_setting CP 63 is 8264)
    ∷ (10 * (PV short_setting 63 * W short_setting 63 * S) is 82645 * Z short_setting.basis 63 65)
    ∷ (PV short_setting 63 is 16529)
    ∷ (L short_setting AB 63 is 0)
    ∷ (L short_setting BD 63 is 0)
    ∷ (L short_setting BP 63 is 0)
    ∷ (L short_setting CD 63 is 0)
    ∷ (L short_setting CP 63 is 0)
    ∷ (PV monthly_setting 64 is 9848)
    ∷ (PV monthly_setting 63 is 8953)
    ∷ (N monthly_setting AB 64 is 4924)
    ∷ (L monthly_setting AB 64 is 4924)
    ∷ (N monthly_setting BD 64 is 4924)
    ∷ (L monthly_setting BD 64 is 4924)
    ∷ (N monthly_setting BP 64 is 5158)
    ∷ (L monthly_setting BP 64 is 4690)
    ∷ (N monthly_setting CD 64 is 4690)
    ∷ (L monthly_setting CD 64 is 5158)
    ∷ (N monthly_setting CP 64 is 4924)
    ∷ (L monthly_setting CP 64 is 4924)
    ∷ (N monthly_setting CP 63 is 4476)
    ∷ (L monthly_setting CP 63 is 0)
    ∷ (10 * (PV monthly_setting 63 * W monthly_setting 63 * S) is 44765 * Z monthly_setting.basis 63 65)
    ∷ (plan_refusal (short_paid 12) short is 0)
    ∷ (plan_refusal (short_paid 2) short is 11)
    ∷ (benefit 2 0 65 is 38182)
    ∷ (benefit 3 2 64 is 18182)
    ∷ (benefit 3 2 65 is 38182)
    ∷ (benefit 3 1 65 is 40000)
    ∷ (lone_refusal short_plan [] short short_member is 0)
    ∷ (10 * ceiling_benefit.upper is 1000000005 * ceiling_benefit.lower)
    ∷ (B ceiling_plan short (ceiling_member 66666667) 60 is 100000000)
    ∷ (lone_refusal ceiling_plan [] short (ceiling_member 66666667) is 0)
    ∷ (lone_refusal ceiling_plan [] short (ceiling_member 66666668) is 25)
    ∷ (B ceiling_plan short (ceiling_member 33333333) 60 is 50000000)
    ∷ (B ceiling_plan short (ceiling_member 33333334) 60 is 50000001)
    ∷ (B ceiling_plan short (ceiling_member 33333335) 60 is 50000002)
    ∷ (B ceiling_plan short (ceiling_member 33333332) 60 is 49999998)
    ∷ (B ceiling_plan short (ceiling_member 1) 60 is 2)
    ∷ (line_refusal ceiling_plan short 0 50000000 (ceiling_member 33333333) is 0)
    ∷ (line_refusal ceiling_plan short 0 50000000 (ceiling_member 33333334) is 29)
    ∷ (line_refusal ceiling_plan short 0 50000002 (ceiling_member 33333332) is 0)
    ∷ (line_refusal ceiling_plan short 0 100000000 (ceiling_member 1) is 29)
    ∷ (unit_valued short_plan short_list is 10250)
    ∷ (lone_refusal short_plan short_list short short_member is 0)
    ∷ (B (as_valued short_plan short_list) short short_member 65 is 20500)
    ∷ (PV amended_setting 64 is 18636)
    ∷ (N amended_setting CD 64 is 8874)
    ∷ (L amended_setting CD 64 is 9762)
    ∷ (lone_refusal raised_plan (amend 1 0 1 0 ∷ []) short (ceiling_member 66666667) is 0)
    ∷ (lone_refusal raised_plan [] short (ceiling_member 66666668) is 0)
    ∷ (lone_refusal raised_plan (amend 1 0 1 0 ∷ []) short (ceiling_member 66666668) is 25)
    ∷ (lone_refusal raised_plan (amend 1 0 1 1 ∷ []) short (ceiling_member 66666668) is 0)
    ∷ (lone_refusal raised_plan (amend 1 0 2 0 ∷ []) short (ceiling_member 66666668) is 55)
    ∷ []

pub figures_are : all_are member_figures ≡ true
unfolding member_figures factors rates short able serves leaves stays staying nearest carried step A pension G T Z ◌over◌ whole ◌⊕◌ ◌⊗◌ inverse summed formula_of pay pays exact_benefit B PV cost N L lone_refusal amended_refusal listed stands in_force_after additions amendment_rules unit_refusal each_refusal amendments_refusal plan_refusal head_rules rows_refusal row_rules line_refusal member_refusal field_rules benefit_rules
figures_are = refl
