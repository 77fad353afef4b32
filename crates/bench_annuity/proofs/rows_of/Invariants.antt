-- `bench_annuity::rows_of` meets its contract. The loop's invariant: each row before j is stored.
use mathlib.Core.List.{[]}
use Prim.Native.Nat.{◌-◌, ◌≤◌}
use Rattle.bench_annuity.specs.Rows.{rows_of}
use Rattle.bench_annuity.proofs.Stored.{Stored}
use Rattle.bench_annuity.proofs.rows_of.Given as goal

abbrev pub invariant-loop-j : goal.invariant-loop-j
invariant-loop-j l = (l.j ≤ 106) × Stored [] (rows_of l.numbers) l.rows l.j

abbrev pub decreases-loop-j : goal.decreases-loop-j
decreases-loop-j l = 106 - l.j
