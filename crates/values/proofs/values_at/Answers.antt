-- `values::values_at` meets its contract.
use Prim.Native.Nat.{ℕ}
use mathlib.Core.Path.{◌∙◌}
use native.Mathlib.Omega.{arith}
use Rattle.std.proofs.lemmas.List.{length-replicate}
use Rattle.fields.specs.Numbers.{whole_of}
use Rattle.fields.proofs.LineLaws.{field_is}
use Rattle.values.proofs.FillLaws.{filling_none, filling_next, filling_wrong, filling_last, filling_wrong_last}
use Rattle.values.proofs.values_at.Goals as goal

pub loop-k-init : goal.loop-k-init
loop-k-init g c = filling_none _ _ _ (omega (arith, length-replicate {A = ℕ} g.row.N 0))

pub returns-in_err-field : goal.returns-in_err-field
returns-in_err-field g c = c.from_residual.ensures ∙ filling_wrong c.loop-k.invariant c.loop-k-test.true c.field_at.ensures _ c.in_err-field.was

pub overflow_add-at : goal.overflow_add-at
overflow_add-at g c = omega (arith, (field_is whole_of _ _ _ c.field_at.ensures c.in_ok-field.was).within)

pub loop-k-preserved : goal.loop-k-preserved
loop-k-preserved g c = filling_next c.loop-k.invariant c.loop-k-test.true c.field_at.ensures c.in_ok-field.was

pub returns-in_err-last : goal.returns-in_err-last
returns-in_err-last g c = c.from_residual-in_err-last.ensures ∙ filling_wrong_last c.loop-k.invariant c.loop-k-test.false _ c.last_at.ensures c.in_err-last.was

pub returns : goal.returns
returns g c = filling_last c.loop-k.invariant c.loop-k-test.false _ c.last_at.ensures c.in_ok-last.was
