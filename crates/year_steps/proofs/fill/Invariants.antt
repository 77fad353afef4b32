-- `year_steps::fill` meets its contract. The loop's invariant: each age from k on holds its factor, and f is that of k.
use Rattle.std.proofs.Common.{◌≡◌, ◌≤◌}
use Rattle.factors.specs.Basis.{basis}
use Rattle.year_steps.specs.Filled.{Filled, factor}
use Rattle.year_steps.proofs.fill.Given as goal

abbrev pub invariant-loop-k : goal.invariant-loop-k
invariant-loop-k l = let F = factor (basis l.rows l.r l.i) l.amount l.top l.start in
    (15 ≤ l.k) × Filled F l.top l.k l.a × (l.f ≡ F l.k)
