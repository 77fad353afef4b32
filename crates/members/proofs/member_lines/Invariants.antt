-- `members::member_lines` meets its contract. The loop's invariant: so many members are read, and the walk goes on from here.
use Prim.Native.Nat.{◌-◌}
use Rattle.members.proofs.MemberLaws.{MembersRead}
use Rattle.members.proofs.member_lines.Given as goal

abbrev pub invariant-loop-tail : goal.invariant-loop-tail
invariant-loop-tail l = MembersRead l.ranges l.p l.rows l.first l.s l.members l.persons.cells l.persons.sums l.at l.count l.before

abbrev pub decreases-loop-tail : goal.decreases-loop-tail
decreases-loop-tail l = 1000 - l.count
