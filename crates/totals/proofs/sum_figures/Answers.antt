-- `totals::sum_figures` meets its contract. The loop's invariant: the sums of the members so far.
use native.Mathlib.Omega.{arith}
use Rattle.totals.proofs.TotalLaws.{sum_none, sum_next, sum_fits}
use Rattle.totals.proofs.sum_figures.Goals as goal

pub loop-numbers-init : goal.loop-numbers-init
loop-numbers-init c = let w = c.args.worked.now in (sum_none (λ f. f.value) w, sum_none (λ f. f.cost) w, sum_none (λ f. f.liability) w)

pub overflow_add-value : goal.overflow_add-value
overflow_add-value c = let l = c.loop-numbers in omega (arith, sum_fits (λ f. f.value) _ _ _ c.loop-numbers-test.true c.requires.0 (λ i h. (c.requires.1 i h).1) l.invariant.0 c.figures_from-f.ensures)

pub overflow_add-cost : goal.overflow_add-cost
overflow_add-cost c = let l = c.loop-numbers in omega (arith, sum_fits (λ f. f.cost) _ _ _ c.loop-numbers-test.true c.requires.0 (λ i h. (c.requires.1 i h).2) l.invariant.1 c.figures_from-f.ensures)

pub overflow_add-liability : goal.overflow_add-liability
overflow_add-liability c = let l = c.loop-numbers in omega (arith, sum_fits (λ f. f.liability) _ _ _ c.loop-numbers-test.true c.requires.0 (λ i h. (c.requires.1 i h).3) l.invariant.2 c.figures_from-f.ensures)

pub loop-numbers-preserved : goal.loop-numbers-preserved
loop-numbers-preserved c = let w = c.args.worked.now in
    let l = c.loop-numbers in
    let is = c.figures_from-f.ensures in
    (sum_next (λ f. f.value) w l.numbers-index l.invariant.0 is, sum_next (λ f. f.cost) w l.numbers-index l.invariant.1 is, sum_next (λ f. f.liability) w l.numbers-index l.invariant.2 is)
