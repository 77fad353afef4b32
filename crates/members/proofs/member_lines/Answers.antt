-- `members::member_lines` meets its contract. The loop's invariant: so many members are read, and the walk goes on from here.
use Prim.Native.Nat.{◌+◌}
use native.Mathlib.Omega.{arith}
use Rattle.fields.proofs.SplitLaws.{rest_part}
use Rattle.stretches.proofs.StretchLaws.{told, on_passed}
use Rattle.members.specs.Stretch.{MembersAre}
use Rattle.members.proofs.MemberLaws.{members_none, members_unread, members_place, members_end, room, members_refused, members_next}
use Rattle.members.proofs.member_lines.Goals as goal

pub loop-tail-init : goal.loop-tail-init
loop-tail-init c = members_none _ _ _ _ _ c.none-persons.ensures.rooted c.none-persons.ensures.nothing

pub returns-in_err-tail : goal.returns-in_err-tail
unfolding MembersAre
returns-in_err-tail c h fits =
    rw (told c.from_residual.result c.from_residual.ensures.1) (members_unread c.loop-tail.invariant _ (rest_part c.args.s.now c.loop-tail.at) c.tail_line.ensures h fits c.in_err-tail.ensures)

pub overflow_add-at : goal.overflow_add-at
overflow_add-at c = omega (arith, members_place c.loop-tail.invariant _ (rest_part c.args.s.now c.loop-tail.at) c.tail_line.ensures c.in_ok-tail.ensures)

pub overflow_add-at-in-loop-tail : goal.overflow_add-at-in-loop-tail
overflow_add-at-in-loop-tail c = omega (arith, members_place c.loop-tail.invariant _ (rest_part c.args.s.now c.loop-tail.at) c.tail_line.ensures c.in_ok-tail.ensures)

pub line_refusal-requires : goal.line_refusal-requires
line_refusal-requires c = (c.requires.0, room c.loop-tail.invariant _ (rest_part c.args.s.now c.loop-tail.at) c.tail_line.ensures c.in_ok-tail.ensures c.in-Listed.is, c.loop-tail.invariant.rooted)

pub returns-in_err-at_line-in-Listed : goal.returns-in_err-at_line-in-Listed
unfolding MembersAre
returns-in_err-at_line-in-Listed c h fits =
    let r = c.from_residual-in_err-at_line-in-Listed in
    rw (told r.result r.ensures.1) (members_refused c.loop-tail.invariant _ (rest_part c.args.s.now c.loop-tail.at) c.tail_line.ensures c.in_ok-tail.ensures c.in-Listed.is _ c.line_refusal.ensures.refusal h fits c.in_err-at_line-in-Listed.ensures)

pub bounds-members-count : goal.bounds-members-count
bounds-members-count c = room c.loop-tail.invariant _ (rest_part c.args.s.now c.loop-tail.at) c.tail_line.ensures c.in_ok-tail.ensures c.in-Listed.is

pub loop-tail-smaller : goal.loop-tail-smaller
loop-tail-smaller c = omega (arith, room c.loop-tail.invariant _ (rest_part c.args.s.now c.loop-tail.at) c.tail_line.ensures c.in_ok-tail.ensures c.in-Listed.is)

pub loop-tail-preserved : goal.loop-tail-preserved
loop-tail-preserved c =
    members_next c.loop-tail.invariant _ (rest_part c.args.s.now c.loop-tail.at) c.tail_line.ensures c.in_ok-tail.ensures c.in-Listed.is _ c.line_refusal.ensures.refusal c.in_ok-at_line-in-Listed.ensures (rw c.from.ensures) (on_passed (c.args.first + c.loop-tail.count) c.line_refusal.result c.in_ok-at_line-in-Listed.ensures c.line_refusal.ensures.rooted) (on_passed (c.args.first + c.loop-tail.count) c.line_refusal.result c.in_ok-at_line-in-Listed.ensures c.line_refusal.ensures.person_after)

pub overflow_sub-s : goal.overflow_sub-s
overflow_sub-s c = members_place c.loop-tail.invariant _ (rest_part c.args.s.now c.loop-tail.at) c.tail_line.ensures c.in_ok-tail.ensures

pub returns-in-End : goal.returns-in-End
returns-in-End c = members_end c.loop-tail.invariant _ (rest_part c.args.s.now c.loop-tail.at) c.tail_line.ensures c.in_ok-tail.ensures c.in-End.is c.end_count.ensures
