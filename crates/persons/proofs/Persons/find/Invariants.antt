-- `persons::Persons::find` meets its contract. The loop's invariant: what is reached from here is reached from the person's home.
use Prim.Native.Nat.{ℕ, ◌-◌, ◌<◌}
use Rattle.persons.specs.Search.{Leads, Found}
use Rattle.persons.proofs.Persons.find.Given as goal

abbrev pub invariant-loop-cell : goal.invariant-loop-cell
invariant-loop-cell l = (l.cell < 6098) × ((steps last : ℕ) → Leads l.self.cells l.self.sums l.person steps l.cell l.rest last → Found l.self.cells l.self.sums l.person last)

abbrev pub decreases-loop-cell : goal.decreases-loop-cell
decreases-loop-cell l = 6098 - l.cell
