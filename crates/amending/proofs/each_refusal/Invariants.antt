-- `amending::each_refusal` meets its contract.
use mathlib.Core.Path.{◌≡◌}
use Rattle.amendments.specs.Judging.{each_refusal}
use Rattle.amendments.proofs.ListLaws.{before, from}
use Rattle.amending.proofs.each_refusal.Given as goal

abbrev pub invariant-loop-j : goal.invariant-loop-j
invariant-loop-j l = each_refusal (before l.list 0) (from l.list 0) ≡ each_refusal (before l.list l.j) (from l.list l.j)
