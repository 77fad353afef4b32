-- `plan::benefit::benefit` meets its contract.
use mathlib.Core.Path.{◌≡◌, sym, ap, ◌∙◌}
use Prim.Native.Nat.{ℕ, ◌-◌, ◌*◌}
use native.Mathlib.Omega.{arith}
use Rattle.rounding.specs.Nearest.{nearest}
use Rattle.rates.specs.Table.{weight}
use Rattle.plan.specs.Weights.{summed}
use Rattle.plan.proofs.BenefitLaws.{not_flat, flat_career, flat_final, final_code, none_at_entry, flat_benefit, career_benefit, final_benefit}
use Rattle.plan.proofs.BenefitNeeds.{weights_most, all_paid, last_paid, paid_ages, now_some, now_most, years_most, last_ages}
use Rattle.plan.proofs.benefit.benefit.Goals as goal

pub returns-then-k-entry : goal.returns-then-k-entry
returns-then-k-entry c = let a = c.args in
    sym (none_at_entry a.p a.rows.now a.m (now_some c.requires.0 c.requires.1) a.k c.if-k-entry.true)

pub career-requires : goal.career-requires
career-requires c = let a = c.args in
    let ranges = c.requires.0 in
    let e = sym c.formula_of.ensures ∙ c.in-Career.is in
    let first = all_paid a.p.average a.m.entry a.k e c.requires.4 in
    let ages = paid_ages c.requires.0 c.requires.1 a.k c.requires.2 c.requires.3 c.requires.4 in
    let most = weights_most a.rows.now a.first a.k ages.low ages.le ages.high ranges.table in
    let scale = c.weight-now.ensures in (
      ranges.head.pay_unit (not_flat a.p.formula e flat_career),
      c.requires.1.paid,
      omega (arith, c.requires.5, most, ages.low, ages.high),
      rw scale (now_some c.requires.0 c.requires.1),
      rw scale (now_most c.requires.0 c.requires.1),
    )

pub overflow_sub-k : goal.overflow_sub-k
overflow_sub-k c = let a = c.args in
    (paid_ages c.requires.0 c.requires.1 a.k c.requires.2 c.requires.3 c.requires.4).le

pub final_average-requires : goal.final_average-requires
final_average-requires c = let a = c.args in
    let ranges = c.requires.0 in
    let e = sym c.formula_of.ensures ∙ c.in-Final.is in
    let average = ranges.head.average (final_code a.p.formula ranges.head.formula.0 ranges.head.formula.1 e) in
    let n_is = last_ages a.p.average (a.k - a.m.entry) average.0 average.1 (omega (arith, c.if-k-entry.false)) in
    let n = last_paid a.p.average a.m.entry a.k e c.requires.4 in
    let ages = paid_ages c.requires.0 c.requires.1 a.k c.requires.2 c.requires.3 c.requires.4 in
    let most = weights_most a.rows.now a.first a.k ages.low ages.le ages.high ranges.table in
    let scale = c.weight-now.ensures in (
      ranges.head.pay_unit (not_flat a.p.formula e flat_final),
      years_most c.requires.0 c.requires.1 a.k c.requires.3,
      c.requires.1.paid,
      omega (arith, c.requires.5, most, n, n_is.most),
      rw n n_is.some,
      rw n n_is.most,
      rw scale (now_some c.requires.0 c.requires.1),
      rw scale (now_most c.requires.0 c.requires.1),
    )

pub returns-in-Flat : goal.returns-in-Flat
returns-in-Flat c = let a = c.args in
    sym (flat_benefit a.p a.rows.now a.m (now_some c.requires.0 c.requires.1) a.k c.if-k-entry.false (sym c.formula_of.ensures ∙ c.in-Flat.is))

pub returns-in-Career : goal.returns-in-Career
returns-in-Career c = let a = c.args in
    let e = sym c.formula_of.ensures ∙ c.in-Career.is in
    let total = c.requires.5 ∙ ap (λ (x : ℕ). summed (weight a.rows.now) x (a.k - x)) (all_paid a.p.average a.m.entry a.k e c.requires.4) in
    c.career.ensures
    ∙ (λ i. nearest (a.p.unit * (a.m.salary * total i)) (10000 * c.weight-now.ensures i))
    ∙ sym (career_benefit a.p a.rows.now a.m (now_some c.requires.0 c.requires.1) a.k c.if-k-entry.false e)

pub returns-in-Final : goal.returns-in-Final
returns-in-Final c = let a = c.args in
    let ranges = c.requires.0.head in
    let e = sym c.formula_of.ensures ∙ c.in-Final.is in
    let average = ranges.average (final_code a.p.formula ranges.formula.0 ranges.formula.1 e) in
    let n_is = last_ages a.p.average (a.k - a.m.entry) average.0 average.1 (omega (arith, c.if-k-entry.false)) in
    let n = last_paid a.p.average a.m.entry a.k e c.requires.4 in
    let first : a.first ≡ a.k - (a.k - a.first) = omega (arith, (paid_ages c.requires.0 c.requires.1 a.k c.requires.2 c.requires.3 c.requires.4).le) in
    let W = weight a.rows.now in
    let total = c.requires.5 ∙ ap (λ (x : ℕ). summed W x (a.k - a.first)) first in
    c.final_average.ensures
    ∙ (λ i. nearest (a.p.unit * (a.k - a.m.entry) * (a.m.salary * total i)) (10000 * ((a.k - a.first) * c.weight-now.ensures i)))
    ∙ ap (λ (n : ℕ). nearest (a.p.unit * (a.k - a.m.entry) * (a.m.salary * summed W (a.k - n) n)) (10000 * (n * W a.m.age))) n
    ∙ sym (final_benefit a.p a.rows.now a.m (now_some c.requires.0 c.requires.1) a.k c.if-k-entry.false e n_is.some)
