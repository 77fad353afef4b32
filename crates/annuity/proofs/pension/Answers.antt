-- `annuity::pension` meets its contract.
use mathlib.Core.Path.{◌≡◌, sym, ap, ◌∙◌}
use Prim.Native.Nat.{ℕ, ◌-◌}
use native.Mathlib.Omega.{arith}
use lib.ListN.{get_or}
use borrow.Author.Tests.{eq-eqb, ne_eqb}
use Rattle.factors.specs.Basis.{basis, payable}
use Rattle.factors.specs.Factors.{monthly_less, A, pension}
use Rattle.factors.proofs.Bases.{A_payable}
use Rattle.factors.proofs.Life.{A_least}
use Rattle.annuity.proofs.pension.Goals as goal
use Rattle.annuity.proofs.pension.Goals.{After-life_of-life}

-- what is read is A(r), whatever the pay
yearly : (c : After-life_of-life) → let a = c.args in get_or c.life_of-life.result (a.r - 15) 0 ≡ A (payable a.pay (basis a.rows.now a.r a.i)) a.r
yearly c =
    let a = c.args in
    c.life_of-life.ensures.upto a.r c.requires.2 c.requires.3
    ∙ ap (λ (f : ℕ → ℕ). f a.r) (sym (A_payable a.pay (basis a.rows.now a.r a.i)))

pub overflow_sub-result : goal.overflow_sub-result
overflow_sub-result c = let a = c.args in
    omega (arith, yearly c.before, A_least (payable a.pay (basis a.rows.now a.r a.i)) a.r)

pub returns-then-pay-eq12 : goal.returns-then-pay-eq12
unfolding pension
returns-then-pay-eq12 c = simp (eq-eqb c.args.pay 12 (omega arith)) (ap (λ (f : ℕ). f - monthly_less) (yearly c.before))

pub returns : goal.returns
unfolding pension
returns c = simp (ne_eqb c.args.pay 12 (omega arith)) (yearly c.before)
