-- `heading::head_lines` meets its contract. The loop's invariant: k terms are read, and the walk goes on from here.
use mathlib.Core.Path.{refl}
use native.Mathlib.Omega.{arith}
use Rattle.fields.proofs.SplitLaws.{rest_part}
use Rattle.stretches.proofs.StretchLaws.{told}
use Rattle.heading.specs.Stretch.{HeadIs}
use Rattle.heading.proofs.HeadLaws.{terms_none, terms_unread, terms_refused, terms_place, terms_next, terms_done}
use Rattle.heading.proofs.head_lines.Goals as goal

pub loop-k-init : goal.loop-k-init
loop-k-init c = terms_none _ _ _ refl

pub returns-in_err-values : goal.returns-in_err-values
unfolding HeadIs
returns-in_err-values c =
    rw (told c.from_residual.result c.from_residual.ensures.1) (terms_unread c.loop-k.invariant c.loop-k-test.true _ (rest_part c.args.s.now c.loop-k.at) c.term_line.ensures c.in_err-values.ensures)

pub returns-in_err-at_line : goal.returns-in_err-at_line
unfolding HeadIs
returns-in_err-at_line c =
    let r = c.from_residual-in_err-at_line in
    rw (told r.result r.ensures.1) (terms_refused c.loop-k.invariant c.loop-k-test.true _ (rest_part c.args.s.now c.loop-k.at) c.term_line.ensures c.in_ok-values.ensures _ c.term_refusal.ensures c.in_err-at_line.ensures)

pub overflow_add-at : goal.overflow_add-at
overflow_add-at c = omega (arith, terms_place c.loop-k.invariant c.loop-k-test.true _ (rest_part c.args.s.now c.loop-k.at) c.term_line.ensures c.in_ok-values.ensures)

pub overflow_add-at-in-loop-k : goal.overflow_add-at-in-loop-k
overflow_add-at-in-loop-k c = omega (arith, terms_place c.loop-k.invariant c.loop-k-test.true _ (rest_part c.args.s.now c.loop-k.at) c.term_line.ensures c.in_ok-values.ensures)

pub loop-k-preserved : goal.loop-k-preserved
loop-k-preserved c =
    terms_next c.loop-k.invariant c.loop-k-test.true _ (rest_part c.args.s.now c.loop-k.at) c.term_line.ensures c.in_ok-values.ensures _ c.term_refusal.ensures c.in_ok-at_line.ensures

pub returns : goal.returns
unfolding HeadIs
returns c = terms_done c.loop-k.invariant c.loop-k-test.false
