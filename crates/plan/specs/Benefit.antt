-- Pay and benefit, RULES section 7.
use Rattle.std.specs.Prelude.{cond, List, ℕ, zero, suc, ◌-◌, ◌*◌, min, leb, eqb}
use Rattle.rounding.specs.Nearest.{nearest}
use Rattle.fractions.specs.Ratio.{Ratio, ◌over◌, whole, ◌⊕◌, ◌⊗◌, ◌⊘◌}
use Rattle.rates.specs.Table.{weight}
use Rattle.plan.specs.declared.Formula.{Formula}
use Rattle.plan.specs.declared.Formula.TheVariants.{Flat, Career, Final}
use Rattle.plan.specs.declared.Plan.{Plan}
use Rattle.plan.specs.declared.Member.{Member}

-- rule 5.4, a formula's code: 1 flat, 2 career, 3 final
unfoldable pub formula_of : ℕ → Formula
formula_of code = cond (eqb code 1) Flat (cond (eqb code 2) Career Final)

module _ (p : Plan) (rows : List (List ℕ)) (m : Member) where
  open p use {unit, average}
  open m use {entry, age, salary}

  -- rule 7.2, pay at age j: exact, along the salary scale, before x too (3.8b)
  unfoldable pub pay : ℕ → Ratio
  pay j = (salary * weight rows j) over weight rows age

  -- the pay of the n ages from k on, summed
  unfoldable pub pays : ℕ → ℕ → Ratio
  pays k zero = whole 0
  pays k (suc n) = pay k ⊕ pays (suc k) n

  -- rule 7.3, flat (3.10): u for each year; rule 7.4, career (3.11b): u basis points of all pay so far;
  -- rule 7.5, final (3.13): u basis points for each year of the average pay of the last n ages, or of all where they are fewer
  unfoldable pub exact_benefit : Formula → ℕ → Ratio
  exact_benefit Flat k = whole (unit * (k - entry))
  exact_benefit Career k = unit over 10000 ⊗ pays entry (k - entry)
  exact_benefit Final k =
      let n = min average (k - entry) in unit over 10000 ⊗ whole (k - entry) ⊗ (pays (k - n) n ⊘ whole n)

  -- rules 7.6 and 7.7, B(k): nothing at entry; else a single rounding to whole cents
  unfoldable pub B : ℕ → ℕ
  B k =
      let exact = exact_benefit (formula_of p.formula) k in
      cond (leb k entry) 0 (nearest exact.upper exact.lower)
