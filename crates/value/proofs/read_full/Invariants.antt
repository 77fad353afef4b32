-- `value::read_full`: what was read has room.
use Rattle.std.proofs.Common.{◌≤◌, length}
use Rattle.value.proofs.read_full.Given as goal

abbrev pub invariant-loop : goal.invariant-loop
invariant-loop g l = l.done ≤ length l.case
