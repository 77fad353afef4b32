-- `whole_walk::walk_table` meets its contract.
use native.Mathlib.Omega.{arith}
use Rattle.fields.proofs.SplitLaws.{rest_part}
use Rattle.stretches.proofs.StretchLaws.{told}
use Rattle.whole_walk.proofs.WalkLaws.{rows_are, plan_accepted, table_refused, table_is}
use Rattle.whole_walk.proofs.walk_table.Goals as goal

pub returns-in_err-next : goal.returns-in_err-next
returns-in_err-next c = table_refused _ _ _ _ c.in_err-next.ensures _ _ _ (told c.from_residual.result c.from_residual.ensures.1)

pub slice_bounds-member_lines-count : goal.slice_bounds-member_lines-count
slice_bounds-member_lines-count c = (rows_are _ _ _ _ c.in_ok-next.ensures).within

pub slice_bounds-member_lines-start : goal.slice_bounds-member_lines-start
slice_bounds-member_lines-start c = (rows_are _ _ _ _ c.in_ok-next.ensures).within

pub member_lines-requires : goal.member_lines-requires
member_lines-requires c = (
  plan_accepted _ _ _ _ _ c.in_ok-next.ensures _ c.requires.0 _ c.requires.2 c.judged_by-p.ensures,
  omega (arith, (rows_are _ _ _ _ c.in_ok-next.ensures).place, c.requires.1),
)

pub returns : goal.returns
returns c = table_is _ _ _ _ _ c.in_ok-next.ensures _ c.requires.0 _ c.requires.2 c.judged_by-p.ensures _ _ (rw (rest_part c.args.s.now c.in_ok-next.field-0.at) at c.member_lines.ensures)
