-- `division::finish` meets its contract.
use Rattle.std.proofs.Common.{◌≡◌}
use Rattle.division.specs.Words.{value}
use Rattle.division.specs.Division.{undivided}
use Rattle.division.proofs.finish.Given as goal

abbrev pub invariant-loop-t : goal.invariant-loop-t
invariant-loop-t l = undivided l.d l.t ≡ undivided l.d l.initial.t

abbrev pub decreases-loop-t : goal.decreases-loop-t
decreases-loop-t l = value l.t.left
