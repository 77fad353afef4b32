-- `amending::listed` meets its contract.
use mathlib.Core.Path.{◌≡◌}
use Rattle.amendments.specs.Force.{listed}
use Rattle.amendments.proofs.ListLaws.{from}
use Rattle.amending.proofs.listed.Given as goal

abbrev pub invariant-loop-a : goal.invariant-loop-a
invariant-loop-a l = listed l.number (from l.list 0) ≡ listed l.number (from l.list l.a-index)
