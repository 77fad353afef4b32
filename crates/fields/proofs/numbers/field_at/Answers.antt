-- `fields::numbers::field_at` meets its contract. The loop's invariant: only digits so far, 12 at most.
use mathlib.Core.Path.{sym, ◌∙◌}
use native.Mathlib.Omega.{arith}
use borrow.Author.Tests.{eqb-true, eqb-false, le-ltb}
use Rattle.fields.specs.Numbers.{whole_of}
use Rattle.fields.proofs.SplitLaws.{off}
use Rattle.fields.proofs.FieldLaws.{run_small, run_next, stop_end, field_other, field_long, field_empty, field_zero, field_many, field_one}
use Rattle.fields.proofs.numbers.field_at.Goals.{then-c-b-via-then-c-b, then-c-b-via-else-c-b+then-j-i, then-c-b-via-else-c-b+else-j-i+then-s-i-eq48, then-i-j, else-i-j}
use Rattle.fields.proofs.numbers.field_at.Goals as goal

pub returns-then-c-b : goal.returns-then-c-b
returns-then-c-b c =
    elim c.then-c-b.branch [
      | then-c-b-via-then-c-b w ↦ field_other _ c.requires c.loop-j.invariant c.loop-j-test.true (sym c.is_digit.ensures.value ∙ c.if-not-is_digit.true) w.if-c-b.true
      | then-c-b-via-else-c-b+then-j-i w ↦ field_empty _ c.requires c.loop-j.invariant c.loop-j-test.true w.if-c-b.false w.if-j-i.true
      | then-c-b-via-else-c-b+else-j-i+then-s-i-eq48 w ↦
          elim w.if-i-j.branch [
            | then-i-j v ↦ field_zero _ c.requires c.loop-j.invariant c.loop-j-test.true w.if-c-b.false v.if-i-j.true (eqb-true _ _ (sym v.value-is ∙ w.if-s-i-eq48.true))
            | else-i-j v ↦ off (sym w.if-s-i-eq48.true ∙ v.value-is ∙ le-ltb _ _ v.if-i-j.false)
          ]
    ]

pub returns-then-not-is_digit : goal.returns-then-not-is_digit
returns-then-not-is_digit c =
    elim c.if-i-j.branch [
      | then-i-j w ↦ field_many _ c.requires c.loop-j.invariant c.loop-j-test.true c.if-c-b.false w.if-i-j.true (eqb-false _ _ (sym w.value-is ∙ c.if-s-i-eq48.false))
      | else-i-j w ↦ field_one _ c.requires c.loop-j.invariant c.loop-j-test.true c.if-c-b.false c.if-j-i.false w.if-i-j.false
    ]

pub returns-then-i-j-2 : goal.returns-then-i-j-2
returns-then-i-j-2 c = field_long _ c.requires c.loop-j.invariant c.loop-j-test.true (sym c.is_digit.ensures.value ∙ c.if-not-is_digit.false) c.if-i-j-2.true

pub overflow_mul-n : goal.overflow_mul-n
overflow_mul-n c = omega (arith, run_small c.loop-j.invariant)

pub overflow_add-n : goal.overflow_add-n
overflow_add-n c = omega (arith, run_small c.loop-j.invariant, c.is_digit.ensures.le_c c.if-not-is_digit.false)

pub loop-j-preserved : goal.loop-j-preserved
loop-j-preserved c = run_next c.loop-j.invariant c.loop-j-test.true (sym c.is_digit.ensures.value ∙ c.if-not-is_digit.false) c.if-i-j-2.false

pub returns : goal.returns
returns c = stop_end whole_of _ c.requires c.loop-j.invariant c.loop-j-test.false
