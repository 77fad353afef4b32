-- `annuity::certain_annuity` meets its contract. The loop's invariant: c is the annuity of the payments so far.
use Rattle.std.proofs.Common.{◌≡◌, ℕ, ◌+◌, ◌*◌, ◌∙◌, sym, ap, arith, lt_of_le_of_lt}
use Rattle.rounding.specs.Nearest.{nearest}
use Rattle.factors.proofs.YearStep.{step_shrinks}
use Rattle.factors.specs.Factors.{S, C}
use Rattle.factors.proofs.Equations.{C_none, C_more}
use Rattle.factors.proofs.Sizes.{C_most}
use Rattle.annuity.proofs.certain_annuity.Goals as goal
use Rattle.annuity.proofs.certain_annuity.Goals.{After-mul_div_nearest-c}

-- what a turn works is the annuity of one payment more
worked : (c : After-mul_div_nearest-c) → S + c.mul_div_nearest-c.result ≡ C c.args.i (c.loop.counter + 1)
worked c =
    let i = c.args.i in
    let l = c.loop in
    ap (λ (f : ℕ). S + f) (c.mul_div_nearest-c.ensures ∙ ap (λ (f : ℕ). nearest (f * 1000000) (100 * (10000 + i))) l.invariant)
    ∙ sym (C_more i l.counter)

pub loop-init : goal.loop-init
loop-init c = sym (C_none c.args.i)

pub mul_div_nearest-c-requires : goal.mul_div_nearest-c-requires
mul_div_nearest-c-requires c = let i = c.args.i in
    let l = c.loop in
    (omega arith, lt_of_le_of_lt (step_shrinks l.c 1000000 (100 * (10000 + i)) (omega arith) (omega arith)) (omega (arith, C_most i l.counter)))

pub overflow_add-c : goal.overflow_add-c
overflow_add-c c = omega (arith, worked c, C_most c.args.i (c.loop.counter + 1))

pub loop-preserved : goal.loop-preserved
loop-preserved c = worked c
