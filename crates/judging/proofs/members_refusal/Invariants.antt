-- `judging::members_refusal` meets its contract.
use Rattle.judging.proofs.TurnLaws.{Passed}
use Rattle.judging.proofs.members_refusal.Given as goal

abbrev pub invariant-loop-j : goal.invariant-loop-j
invariant-loop-j l = Passed l.p l.rows l.members l.persons.cells l.persons.sums l.before l.j
