-- The terms of a plan and their rules, RULES section 2. Cents for money.
use Rattle.std.specs.Prelude.{cond, ◌||◌, List, [], ◌∷◌, ◌++◌, ℕ, get_or, leb, eqb}
use Rattle.plan.specs.declared.Plan.{Plan}
use Rattle.plan.specs.Numbers.{terms_of}
use Rattle.rules.specs.Refusals.{plan_form, out_of_range, wrong_average}
use Rattle.rules.specs.Rules.{unless, between}

-- rule 2.2, interest: up to 2000 basis points; rule 2.3, retirement: at 50 to 75
abbrev pub interest_rule : ℕ → ℕ
interest_rule i = unless (leb i 2000) out_of_range

abbrev pub retire_rule : ℕ → ℕ
retire_rule r = unless (between 50 75 r) out_of_range

-- rule 2.10, pay: a pension is paid once or 12 times a year
abbrev pub pay_rule : ℕ → ℕ
pay_rule pay = unless (eqb pay 1 || eqb pay 12) out_of_range

-- rule 5.4, codes: 1 flat, 2 career, 3 final; 1 AB, 2 BD, 3 BP, 4 CD, 5 CP; any other is refused with 10
abbrev pub formula_rule : ℕ → ℕ
formula_rule code = unless (between 1 3 code) plan_form

-- rule 2.5, unit: for flat up to 100000 cents a year of service, for the others up to 500 basis points of pay
abbrev pub unit_most : (formula : ℕ) → ℕ
unit_most formula = cond (eqb formula 1) 100000 500

abbrev pub unit_rule : (formula unit : ℕ) → ℕ
unit_rule formula unit = unless (leb unit (unit_most formula)) out_of_range

-- rule 2.6, average: over 1 to 10 years for final, and 0 where the formula has none
abbrev pub average_rule : (formula average : ℕ) → ℕ
average_rule formula average = unless (cond (eqb formula 3) (between 1 10 average) (eqb average 0)) wrong_average

-- rule 5.4 again
abbrev pub method_rule : ℕ → ℕ
method_rule code = unless (between 1 5 code) plan_form

-- rule 2.8, assets: at most 999999999999.99; rule 2.9, years: 1 to 40
abbrev pub assets_rule : ℕ → ℕ
assets_rule assets = unless (leb assets 99999999999999) out_of_range

abbrev pub years_rule : ℕ → ℕ
years_rule m = unless (between 1 40 m) out_of_range

-- a rule for a term, after the values of the terms before it
abbrev pub TermRule : Type 0
TermRule = (before : List ℕ) → (value : ℕ) → ℕ

-- the formula, once it has been read
abbrev pub formula_in : List ℕ → ℕ
formula_in before = get_or before 3 0

-- rule 2.1: the rules of the terms, in the order of the lines
abbrev pub term_rules : List TermRule
term_rules =
    (λ before i. interest_rule i)
    ∷ (λ before r. retire_rule r)
    ∷ (λ before pay. pay_rule pay)
    ∷ (λ before code. formula_rule code)
    ∷ (λ before unit. unit_rule (formula_in before) unit)
    ∷ (λ before average. average_rule (formula_in before) average)
    ∷ (λ before code. method_rule code)
    ∷ (λ before assets. assets_rule assets)
    ∷ (λ before m. years_rule m)
    ∷ []

-- the rule of the term with so many before it; past the last there is none to break
abbrev pub term_rule : ℕ → TermRule
term_rule k = get_or term_rules k (λ before v. 0)

-- each by its rule
abbrev pub ruled : List TermRule → (before terms : List ℕ) → List ℕ
ruled [] before terms = []
ruled (rule ∷ rules) before [] = []
ruled (rule ∷ rules) before (v ∷ terms) = rule before v ∷ ruled rules (before ++ v ∷ []) terms

unfoldable pub head_rules : Plan → List ℕ
head_rules p = ruled term_rules [] (terms_of p)
