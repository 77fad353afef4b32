-- `amending::additions` meets its contract.
use Prim.Native.Nat.{◌≤◌}
use lib.ListN.{length}
use Rattle.amendments.proofs.ListLaws.{Summed}
use Rattle.amending.proofs.additions.Given as goal

abbrev pub invariant-loop-numbers : goal.invariant-loop-numbers
invariant-loop-numbers l = (length l.list ≤ 20) × Summed l.list l.force l.sum l.n l.numbers-index
