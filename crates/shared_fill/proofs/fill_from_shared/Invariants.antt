-- `shared_fill::fill_from_shared` meets its contract. The loop's invariant: the figures of the members so far stand in the array, and what is shared is filled.
use Rattle.std.proofs.Common.{◌≡◌, length}
use Rattle.shared_engine.specs.Shared.{Shared}
use Rattle.all_figures.specs.Worked.{AreWorked}
use Rattle.shared_fill.proofs.fill_from_shared.Given as goal

abbrev pub invariant-loop-j : goal.invariant-loop-j
invariant-loop-j l = (length l.worked ≡ 1000) × AreWorked l.p l.rows l.members l.worked l.j × Shared l.p l.rows l.g l.columns.factors l.columns.filled
