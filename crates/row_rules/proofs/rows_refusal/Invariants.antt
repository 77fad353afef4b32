-- `row_rules::rows_refusal` meets its contract.
use mathlib.Core.Path.{◌≡◌}
use Prim.Native.Nat.{◌-◌}
use Rattle.row_rules.specs.Table.{weight_before, rows_refusal}
use Rattle.row_rules.proofs.rows_refusal.Given as goal

abbrev pub invariant-loop-k : goal.invariant-loop-k
invariant-loop-k l = (l.before ≡ weight_before l.rows l.k) × (rows_refusal l.rows 15 106 ≡ rows_refusal l.rows l.k (121 - l.k))
