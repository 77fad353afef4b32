-- `whole_walk::walk_lines` meets its contract.
use Rattle.fields.proofs.SplitLaws.{rest_part}
use Rattle.stretches.proofs.StretchLaws.{told}
use Rattle.whole_walk.specs.Stretch.{WalkIs}
use Rattle.whole_walk.proofs.WalkLaws.{too_large_number, head_refused, head_is, head_low, walk_is}
use Rattle.whole_walk.proofs.walk_lines.Goals as goal

pub returns-then-case-gt65536 : goal.returns-then-case-gt65536
unfolding WalkIs
returns-then-case-gt65536 c = rw (c.at.ensures.0, c.at.ensures.1) (too_large_number _ _ c.if-case-gt65536.true)

pub returns-in_err-line : goal.returns-in_err-line
returns-in_err-line c = head_refused _ _ c.if-case-gt65536.false _ c.in_err-line.ensures _ _ _ (told c.from_residual.result c.from_residual.ensures.1)

pub slice_bounds-walk_list-count : goal.slice_bounds-walk_list-count
slice_bounds-walk_list-count c = (head_is _ _ c.if-case-gt65536.false _ _ c.in_ok-line.ensures).within

pub slice_bounds-walk_list-start : goal.slice_bounds-walk_list-start
slice_bounds-walk_list-start c = (head_is _ _ c.if-case-gt65536.false _ _ c.in_ok-line.ensures).within

pub walk_list-requires : goal.walk_list-requires
walk_list-requires c = (
  (head_is _ _ c.if-case-gt65536.false _ _ c.in_ok-line.ensures).good,
  head_low _ _ c.if-case-gt65536.false _ _ c.in_ok-line.ensures,
  c.requires,
)

pub returns : goal.returns
returns c = walk_is _ _ c.if-case-gt65536.false _ _ c.in_ok-line.ensures _ _ _ _ (rw (rest_part c.args.case.now c.in_ok-line.field-0.at) at c.walk_list.ensures)
