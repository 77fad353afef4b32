-- `annuity::certain_annuity` meets its contract. The loop's invariant: c is the annuity of the payments so far.
use Rattle.std.proofs.Common.{◌≡◌}
use Rattle.factors.specs.Factors.{C}
use Rattle.annuity.proofs.certain_annuity.Given as goal

abbrev pub invariant-loop : goal.invariant-loop
invariant-loop l = l.c ≡ C l.i l.counter
