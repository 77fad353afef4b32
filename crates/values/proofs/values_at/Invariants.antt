-- `values::values_at` meets its contract.
use Prim.Native.Nat.{◌-◌}
use Rattle.values.proofs.FillLaws.{Filling}
use Rattle.values.proofs.values_at.Given as goal

abbrev pub invariant-loop-k : goal.invariant-loop-k
invariant-loop-k g l = Filling l.s (g.row.N - 1) l.i l.k l.values l.at
