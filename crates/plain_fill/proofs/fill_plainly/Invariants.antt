-- `plain_fill::fill_plainly` meets its contract. The loop's invariant: the figures of the members so far stand in the array.
use Rattle.std.proofs.Common.{◌≡◌, length}
use Rattle.all_figures.specs.Worked.{AreWorked}
use Rattle.plain_fill.proofs.fill_plainly.Given as goal

abbrev pub invariant-loop-j : goal.invariant-loop-j
invariant-loop-j l = (length l.worked ≡ 1000) × AreWorked l.p l.rows l.members l.worked l.j
