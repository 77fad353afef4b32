-- `amend_lines::amend_lines` meets its contract. The loop's invariant: n amendments are read, and the walk goes on from here.
use Prim.Native.Nat.{◌-◌}
use Rattle.amend_lines.proofs.AmendLaws.{AmendsRead}
use Rattle.amend_lines.proofs.amend_lines.Given as goal

abbrev pub invariant-loop-p : goal.invariant-loop-p
invariant-loop-p l = AmendsRead l.ranges l.p l.first l.s l.list l.at l.n

abbrev pub decreases-loop-p : goal.decreases-loop-p
decreases-loop-p l = 20 - l.n
