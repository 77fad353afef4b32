-- `amending::stands` meets its contract.
use borrow.Author.Tests.{eq-eqb, ne_eqb}
use Rattle.amendments.specs.Force.{stands}
use Rattle.amending.proofs.stands.Goals as goal

pub returns-then-a-eq0-2 : goal.returns-then-a-eq0-2
unfolding stands
returns-then-a-eq0-2 c = simp (eq-eqb c.args.a.struck 0 c.if-a-eq0.true, eq-eqb c.args.a.rests 0 c.if-a-eq0-2.true)

pub returns-else-a-eq0-2 : goal.returns-else-a-eq0-2
unfolding stands
returns-else-a-eq0-2 c = simp (eq-eqb c.args.a.struck 0 c.if-a-eq0.true, ne_eqb c.args.a.rests 0 c.if-a-eq0-2.false) c.listed.ensures

pub returns-else-a-eq0 : goal.returns-else-a-eq0
unfolding stands
returns-else-a-eq0 c = simp (ne_eqb c.args.a.struck 0 c.if-a-eq0.false)
