-- `whole_walk::walk_list` meets its contract.
use native.Mathlib.Omega.{arith}
use lib.ListN.{length-take}
use Rattle.fields.proofs.SplitLaws.{rest_part}
use Rattle.stretches.proofs.StretchLaws.{told}
use Rattle.whole_walk.proofs.WalkLaws.{list_refused, list_are, list_count, list_room, list_keeps, list_whole, list_later}
use Rattle.whole_walk.proofs.walk_list.Goals as goal

pub returns-in_err-next : goal.returns-in_err-next
returns-in_err-next c = list_refused _ _ _ _ c.from-plan.ensures _ c.in_err-next.ensures _ _ (told c.from_residual.result c.from_residual.ensures.1)

pub overflow_sub-amendments : goal.overflow_sub-amendments
overflow_sub-amendments c = (list_count _ _ _ c.args.terms.now c.from-plan.ensures _ _ c.in_ok-next.ensures).1

pub slice_bounds-listed-end : goal.slice_bounds-listed-end
slice_bounds-listed-end c = list_room _ _ _ c.args.terms.now c.from-plan.ensures _ _ c.in_ok-next.ensures

pub slice_bounds-listed-end-2 : goal.slice_bounds-listed-end-2
slice_bounds-listed-end-2 c = simp length-take (omega (arith, list_room _ _ _ c.args.terms.now c.from-plan.ensures _ _ c.in_ok-next.ensures))

pub slice_bounds-walk_table-count : goal.slice_bounds-walk_table-count
slice_bounds-walk_table-count c = (list_are _ _ _ c.args.terms.now c.from-plan.ensures _ _ c.in_ok-next.ensures).within

pub slice_bounds-walk_table-start : goal.slice_bounds-walk_table-start
slice_bounds-walk_table-start c = (list_are _ _ _ c.args.terms.now c.from-plan.ensures _ _ c.in_ok-next.ensures).within

pub walk_table-requires : goal.walk_table-requires
walk_table-requires c = let d = list_are _ _ _ c.args.terms.now c.from-plan.ensures _ _ c.in_ok-next.ensures in
    (c.requires.0, omega (arith, d.place, d.few, c.requires.1), list_keeps _ _ _ c.args.terms.now c.from-plan.ensures _ _ c.in_ok-next.ensures)

pub returns-in_err-counted : goal.returns-in_err-counted
returns-in_err-counted c = let r = c.from_residual-in_err-counted in
    list_later _ _ _ _ c.from-plan.ensures _ _ c.in_ok-next.ensures _ _ _ (rw (rest_part c.args.s.now c.in_ok-next.field-0.at) at c.in_err-counted.ensures) (told r.result r.ensures.1)

pub returns : goal.returns
returns c = list_whole _ _ _ _ c.from-plan.ensures _ _ c.in_ok-next.ensures _ _ _ (rw (rest_part c.args.s.now c.in_ok-next.field-0.at) at c.in_ok-counted.ensures)
