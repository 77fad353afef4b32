-- `year_steps::fill` meets its contract. The loop's invariant: each age from k on holds its factor, and f is that of k.
use Rattle.std.proofs.Common.{◌≡◌, ◌+◌, ◌-◌, refl, sym, arith}
use Rattle.factors.specs.Basis.{basis}
use Rattle.factors.proofs.Bases.{basis_fair}
use Rattle.year_steps.specs.Filled.{factor}
use Rattle.year_steps.proofs.Filling.{filled_first, filled_more, factor_top, factor_by_row, factor_most}
use Rattle.year_steps.proofs.fill.Goals as goal
use Rattle.year_steps.proofs.fill.Goals.{After-step}

-- what a turn works is the factor of its age
worked : (c : After-step) → let g = c.args in c.amount_of.result + c.step.result ≡ factor (basis g.rows.now g.r g.i) g.amount g.top g.start (c.loop-k.k - 1)
worked c =
    let g = c.args in
    let l = c.loop-k in
    let next : l.k - 1 + 1 ≡ l.k = omega arith in
    factor_by_row g.rows.now g.r g.i g.amount g.top g.start (l.k - 1) (omega arith) refl (rw next l.invariant.2) c.amount_of.ensures c.step.ensures

pub loop-k-init : goal.loop-k-init
loop-k-init c = let g = c.args in
    let top = sym (factor_top (basis g.rows.now g.r g.i) g.amount g.top g.start) in
    (c.requires.2, filled_first _ g.top g.start (omega arith) (omega arith) top, top)

pub overflow_add-f : goal.overflow_add-f
overflow_add-f c = let g = c.args in
    omega (arith, worked c, factor_most (basis g.rows.now g.r g.i) (basis_fair g.rows.now g.r g.i) g.amount g.top g.start (c.loop-k.k - 1) c.requires.3 (omega arith) c.requires.4 (λ k low high. (c.requires.0 k low high).weight))

pub loop-k-preserved : goal.loop-k-preserved
loop-k-preserved c = let l = c.loop-k in
    let next : l.k ≡ l.k - 1 + 1 = omega arith in
    (omega arith, filled_more _ c.args.top (l.k - 1) _ (omega arith) (omega arith) c.requires.3 (worked c) (rw next at l.invariant.1), worked c)
