-- `amending::additions` meets its contract.
use mathlib.Core.Path.{refl, sym, ap, ◌∙◌}
use Prim.Native.Nat.{◌≤◌}
use native.Mathlib.Omega.{arith}
use Rattle.plan.specs.declared.Amendment.{Amendment}
use Rattle.amendments.proofs.ListLaws.{summed_none, summed_out, summed_in, summed_all}
use Rattle.amendments.proofs.Keeping.{list_few, add_small}
use Rattle.amending.proofs.additions.Goals as goal
use Rattle.amending.proofs.additions.Goals.{After-from-a, then-stands, else-stands}

-- what is added is within its range
small : (c : After-from-a) → c.from-a.result.add ≤ 100000
small c =
    rw (ap (λ (a : Amendment). a.add) c.from-a.ensures) (add_small c.args.list.now c.requires c.loop-numbers.numbers-index c.loop-numbers-test.true)

pub overflow_add-sum : goal.overflow_add-sum
overflow_add-sum c = let i = c.loop-numbers.invariant in
    omega (arith, i.0, i.1.small, c.loop-numbers-test.true, small (goal.at.overflow_add-sum c).After-from-a)

pub loop-numbers-init : goal.loop-numbers-init
loop-numbers-init c = (list_few c.args.list.now c.requires, summed_none c.args.list.now _ refl)

pub slice_bounds-force-end : goal.slice_bounds-force-end
slice_bounds-force-end c = let i = c.loop-numbers.invariant in omega (arith, i.0, i.1.some, i.1.size)

pub loop-numbers-preserved : goal.loop-numbers-preserved
loop-numbers-preserved c = let l = c.loop-numbers in
    let test = c.loop-numbers-test.true in
    let is = c.from-a.ensures in
    let stood = c.stands.ensures in (
      l.invariant.0,
      elim c.if-stands.branch [
        | then-stands w ↦ rw (w.force-is, w.sum-is, w.n-is) (summed_in l.invariant.1 test l.invariant.0 _ is (sym stood ∙ w.if-stands.true) (small (goal.at.loop-numbers-preserved c).After-from-a))
        | else-stands w ↦ rw (w.force-is, w.sum-is, w.n-is) (summed_out l.invariant.1 test l.invariant.0 _ is (sym stood ∙ w.if-stands.false))
      ],
    )

pub returns : goal.returns
returns c = summed_all c.loop-numbers.invariant.1 (omega (arith, c.loop-numbers-test.false))
