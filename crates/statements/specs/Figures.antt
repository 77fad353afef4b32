-- RULES section 14, figures worked by hand: all that have a P, the last ones added to those of the crate below and computed as one list; and the lines of the short case.
use Rattle.std.specs.Prelude.{◌≡◌, refl, true, List, [], ◌∷◌, ◌++◌, pos, nat_abs, ◌+ℤ◌}
use Rattle.rounding.specs.Nearest.{nearest, nearest_ℤ}
use Rattle.fractions.specs.Ratio.{◌over◌, whole, ◌⊕◌, ◌⊗◌, inverse}
use Rattle.rates.specs.ByHand.{Figure, ◌is◌, all_are}
use Rattle.factors.specs.Recursion.{carried}
use Rattle.rates.specs.Rates.{able, serves, leaves, stays, rates}
use Rattle.rates.specs.Table.{staying}
use Rattle.factors.specs.Factors.{step, A, pension, G, T, Z, C}
use Rattle.factors.specs.Figures.{short, factors}
use Rattle.plan.specs.declared.Plan.{Plan}
use Rattle.plan.specs.Weights.{summed}
use Rattle.plan.specs.Benefit.{formula_of, pay, pays, exact_benefit, B}
use Rattle.rules.specs.Heading.{head_rules}
use Rattle.row_rules.specs.Table.{rows_refusal, row_rules}
use Rattle.amendments.specs.Force.{listed, stands, in_force_after, additions, as_valued}
use Rattle.amendments.specs.Judging.{amendment_rules, unit_refusal, each_refusal, amendments_refusal}
use Rattle.rule_order.specs.Acceptance.{lone_refusal, amended_refusal, plan_refusal, line_refusal, member_refusal, field_rules, benefit_rules}
use Rattle.costs.specs.Costs.{PV, cost, N, L}
use Rattle.costs.specs.Valuation.{method_of, figures_at, figures}
use Rattle.costs.specs.Figures.{short_plan, short_member, short_list, member_figures}
use Rattle.parts.specs.Parts.{parts_at, figures_from}
use Rattle.fields.specs.Text.{bytes}
use Rattle.printing.specs.Amounts.{digits, width, whole_number, amount, signed_amount}
use Rattle.printed_lines.specs.Lines.{fields, amounts_line, signed_line}
use Rattle.totals.specs.Totals.{total, unfunded, supplemental}
use Rattle.report.specs.Lines.{figures_line, total_line, plan_lines, member_line, member_lines, printed}
use Rattle.statements.specs.Engines.{by_definition, figures_from_kept, figures_by, total_of, lines_of, printed_of}

-- rule 14.8, the short plan overfunded: no member, and assets of 100.00
abbrev over_plan : Plan
over_plan =
    record { interest = 1000; retire = 65; pay = 1; formula = 1; unit = 10000; average = 0; method = 4; assets = 10000; years = 2 }

-- a figure below 0: with its size added it is 0
unfoldable pub proved_set : List Figure
proved_set =
    member_figures
    ++ (nat_abs (unfunded over_plan short [] +ℤ pos 10000) is 0)
    ∷ (nat_abs (supplemental over_plan short [] +ℤ pos 5238) is 0)
    ∷ (plan_refusal over_plan short is 0)
    ∷ []

pub proved_set_stands : all_are proved_set ≡ true
unfolding proved_set total unfunded supplemental member_figures factors rates short able serves leaves stays staying nearest nearest_ℤ carried step A pension G T Z C ◌over◌ whole ◌⊕◌ ◌⊗◌ inverse summed formula_of pay pays exact_benefit B PV cost N L lone_refusal amended_refusal listed stands in_force_after additions amendment_rules unit_refusal each_refusal amendments_refusal plan_refusal head_rules rows_refusal row_rules line_refusal member_refusal field_rules benefit_rules
proved_set_stands = refl

-- rule 14.2: the short case, as it is printed
pub short_lines : printed short_plan short (short_member ∷ []) ≡ bytes "member=7,200.00,181.82,86.58,95.24\ntotal=1,181.82,86.58,95.24\nunfunded=75.24\nsupplemental=39.41\n"
unfolding printed member_lines member_line plan_lines total_line figures_line amounts_line signed_line fields signed_amount amount whole_number width digits total unfunded supplemental figures figures_at method_of formula_of exact_benefit B PV cost N L short able serves stays staying nearest nearest_ℤ carried step A pension G T C ◌over◌ whole
short_lines = refl

-- and by the figures of an engine that gives the parts
pub short_lines_by : printed_of short_plan (short_member ∷ []) (figures_by by_definition short_plan short (short_member ∷ [])) ≡ printed short_plan short (short_member ∷ [])
unfolding printed_of lines_of total_of figures_from_kept figures_from parts_at printed member_lines member_line total unfunded supplemental figures figures_at method_of formula_of exact_benefit B PV cost N L short able serves stays staying nearest nearest_ℤ carried step A pension G T C ◌over◌ whole
short_lines_by = refl

-- rule 14.26: the short case with three amendments, as it is printed
pub amended_lines : printed (as_valued short_plan short_list) short (short_member ∷ []) ≡ bytes "member=7,205.00,186.36,88.74,97.62\ntotal=1,186.36,88.74,97.62\nunfunded=77.62\nsupplemental=40.66\n"
unfolding listed stands in_force_after additions printed member_lines member_line plan_lines total_line figures_line amounts_line signed_line fields signed_amount amount whole_number width digits total unfunded supplemental figures figures_at method_of formula_of exact_benefit B PV cost N L short able serves stays staying nearest nearest_ℤ carried step A pension G T C ◌over◌ whole
amended_lines = refl
