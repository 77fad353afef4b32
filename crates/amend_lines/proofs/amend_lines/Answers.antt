-- `amend_lines::amend_lines` meets its contract. The loop's invariant: n amendments are read, and the walk goes on from here.
use Prim.Native.Nat.{◌+◌}
use mathlib.Core.Path.{ap, ◌∙◌}
use lib.ListN.{length}
use native.Mathlib.Omega.{arith}
use borrow.Author.Rules.{rules}
use Rattle.fields.proofs.SplitLaws.{rest_part}
use Rattle.stretches.proofs.StretchLaws.{told, on_passed}
use Rattle.amend_lines.specs.Stretch.{AmendsAre}
use Rattle.amend_lines.proofs.ArrayLaws.{list_size}
use Rattle.amend_lines.proofs.AmendLaws.{amends_none, front_kept, amends_done, amends_unread, amends_place, amends_refused, amends_next}
use Rattle.amend_lines.proofs.amend_lines.Goals as goal

pub loop-p-init : goal.loop-p-init
loop-p-init c = amends_none _ _ _ _ _ c.requires.0

pub returns-in_err-numbers : goal.returns-in_err-numbers
unfolding AmendsAre
returns-in_err-numbers c =
    rw (told c.from_residual.result c.from_residual.ensures.1) (λ terms plan. amends_unread c.loop-p.invariant _ (rest_part c.args.s.now c.loop-p.at) c.begins.ensures c.loop-p-test.true c.amend_line.ensures terms plan c.in_err-numbers.ensures)

pub overflow_add-at : goal.overflow_add-at
overflow_add-at c = omega (arith, amends_place c.loop-p.invariant _ (rest_part c.args.s.now c.loop-p.at) c.begins.ensures c.loop-p-test.true c.amend_line.ensures c.in_ok-numbers.ensures)

pub overflow_add-at-in-loop-p : goal.overflow_add-at-in-loop-p
overflow_add-at-in-loop-p c = omega (arith, amends_place c.loop-p.invariant _ (rest_part c.args.s.now c.loop-p.at) c.begins.ensures c.loop-p-test.true c.amend_line.ensures c.in_ok-numbers.ensures)

pub slice_bounds-begins-count-in-loop-p : goal.slice_bounds-begins-count-in-loop-p
slice_bounds-begins-count-in-loop-p c = amends_place c.loop-p.invariant _ (rest_part c.args.s.now c.loop-p.at) c.begins.ensures c.loop-p-test.true c.amend_line.ensures c.in_ok-numbers.ensures

pub slice_bounds-begins-start-in-loop-p : goal.slice_bounds-begins-start-in-loop-p
slice_bounds-begins-start-in-loop-p c = let within = amends_place c.loop-p.invariant _ (rest_part c.args.s.now c.loop-p.at) c.begins.ensures c.loop-p-test.true c.amend_line.ensures c.in_ok-numbers.ensures in search rules

pub listed_refusal-requires : goal.listed_refusal-requires
listed_refusal-requires c = (ap length c.loop-p.invariant.held ∙ list_size _, c.loop-p.invariant.few, λ on. front_kept c.loop-p.invariant on)

pub returns-in_err-at_line : goal.returns-in_err-at_line
unfolding AmendsAre
returns-in_err-at_line c =
    let r = c.from_residual-in_err-at_line in
    rw (told r.result r.ensures.1) (λ terms plan. amends_refused c.loop-p.invariant _ (rest_part c.args.s.now c.loop-p.at) c.begins.ensures c.loop-p-test.true c.amend_line.ensures c.in_ok-numbers.ensures c.from-a.ensures (rest_part c.args.s.now (c.loop-p.at + (c.in_ok-numbers.end + 1))) c.begins-more.ensures _ c.listed_refusal.ensures.value terms plan c.in_err-at_line.ensures)

pub loop-p-smaller : goal.loop-p-smaller
loop-p-smaller c = let next = amends_next c.loop-p.invariant _ (rest_part c.args.s.now c.loop-p.at) c.begins.ensures c.loop-p-test.true c.amend_line.ensures c.in_ok-numbers.ensures c.from-a.ensures (rest_part c.args.s.now (c.loop-p.at + (c.in_ok-numbers.end + 1))) c.begins-more.ensures _ c.listed_refusal.ensures.value c.in_ok-at_line.ensures (on_passed (c.args.first + c.loop-p.n) c.listed_refusal.result c.in_ok-at_line.ensures c.listed_refusal.ensures.list_after) in omega (arith, next.few)

pub loop-p-preserved : goal.loop-p-preserved
loop-p-preserved c = amends_next c.loop-p.invariant _ (rest_part c.args.s.now c.loop-p.at) c.begins.ensures c.loop-p-test.true c.amend_line.ensures c.in_ok-numbers.ensures c.from-a.ensures (rest_part c.args.s.now (c.loop-p.at + (c.in_ok-numbers.end + 1))) c.begins-more.ensures _ c.listed_refusal.ensures.value c.in_ok-at_line.ensures (on_passed (c.args.first + c.loop-p.n) c.listed_refusal.result c.in_ok-at_line.ensures c.listed_refusal.ensures.list_after)

pub returns : goal.returns
unfolding AmendsAre
returns c = amends_done c.loop-p.invariant (rest_part c.args.s.now c.loop-p.at) c.begins.ensures c.loop-p-test.false
