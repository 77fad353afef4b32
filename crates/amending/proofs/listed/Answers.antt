-- `amending::listed` meets its contract.
use mathlib.Core.Path.{◌≡◌, ap, sym, ◌∙◌}
use native.Mathlib.Omega.{arith}
use Rattle.plan.specs.declared.Amendment.{Amendment}
use Rattle.amendments.proofs.ListLaws.{at, listed_here, listed_on, listed_none}
use Rattle.amending.proofs.listed.Goals as goal
use Rattle.amending.proofs.listed.Goals.{After-from}

-- the number that was read is the amendment's
read : (c : After-from) → c.from.result.number ≡ (at c.args.list.now c.loop-a.a-index).number
read c = ap (λ (a : Amendment). a.number) c.from.ensures

pub returns-then-from-number : goal.returns-then-from-number
returns-then-from-number c = let l = c.loop-a in
    listed_here c.args.list.now c.args.number l.a-index c.loop-a-test.true (sym (read (goal.at.returns-then-from-number c).After-from) ∙ c.if-from-number.true) ∙ sym l.invariant

pub loop-a-preserved : goal.loop-a-preserved
loop-a-preserved c = let l = c.loop-a in
    l.invariant ∙ listed_on c.args.list.now c.args.number l.a-index c.loop-a-test.true (λ e. c.if-from-number.false (read (goal.at.loop-a-preserved c).After-from ∙ e))

pub returns : goal.returns
returns c = listed_none c.args.list.now c.args.number c.loop-a.a-index (omega (arith, c.loop-a-test.false)) ∙ sym c.loop-a.invariant
