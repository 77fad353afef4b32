-- `persons::Persons::stops` meets its contract.
use mathlib.Core.Path.{refl, sym, ◌∙◌}
use borrow.Author.Tests.{eq-eqb}
use Rattle.persons.proofs.SearchLaws.{stops_empty, stops_by}
use Rattle.persons.proofs.Persons.stops.Goals as goal

pub returns-then-line-eq0 : goal.returns-then-line-eq0
returns-then-line-eq0 c = eq-eqb _ 0 c.if-line-eq0.true ∙ sym (stops_empty _ _ _ _ c.if-line-eq0.true)

pub returns-else-line-eq0 : goal.returns-else-line-eq0
returns-else-line-eq0 c = stops_by _ _ _ _ refl c.if-line-eq0.false
