-- `persons::Persons::find` meets its contract. The loop's invariant: what is reached from here is reached from the person's home.
use mathlib.Core.Path.{◌≡◌, refl, sym, ap, subst, ◌∙◌}
use mathlib.Core.Bool.{false}
use Prim.Native.Nat.{ℕ, suc, ◌/◌, ◌<◌}
use native.Mathlib.Omega.{arith}
use Rattle.persons.specs.Search.{line_in, branch, stops_at, Leads}
use Rattle.persons.proofs.SearchLaws.{next_higher}
use Rattle.persons.proofs.Persons.find.Goals as goal
use Rattle.persons.proofs.Persons.find.Goals.{After-branch_of-cell}

-- a turn goes on to the branch of the line in its cell
record Turn (c : After-branch_of-cell) : Type 0 where
  on : stops_at c.args.self.now.cells c.args.self.now.sums c.args.person c.loop-cell.cell ≡ false
  next : c.branch_of-cell.result ≡ branch (line_in c.args.self.now.cells c.loop-cell.cell) c.loop-cell.rest
  higher : (c.loop-cell.cell < branch (line_in c.args.self.now.cells c.loop-cell.cell) c.loop-cell.rest) × (branch (line_in c.args.self.now.cells c.loop-cell.cell) c.loop-cell.rest < 6098)

turn : (c : After-branch_of-cell) → Turn c
turn c =
    let l = c.loop-cell in
    let on = sym c.stops.ensures ∙ c.loop-cell-test.true in
    record {
      on = on;
      next = c.branch_of-cell.ensures ∙ ap (λ (line : ℕ). branch line l.rest) c.from.ensures;
      higher = next_higher c.args.self.now.cells c.args.self.now.sums c.args.person c.requires l.cell l.rest on;
    }

pub loop-cell-smaller : goal.loop-cell-smaller
loop-cell-smaller c = omega (arith, (turn c).next, (turn c).higher.0, (turn c).higher.1)

pub loop-cell-preserved : goal.loop-cell-preserved
loop-cell-preserved c = let a = c.args in
    let l = c.loop-cell in
    let t = turn c in (
      omega (arith, t.next, t.higher.1),
      λ steps last way. l.invariant.1 (suc steps) last (t.on, subst (λ (cell : ℕ). Leads a.self.now.cells a.self.now.sums a.person steps cell (l.rest / 2) last) t.next way),
    )

pub returns : goal.returns
returns c = let stops = sym c.stops.ensures ∙ c.loop-cell-test.false in
    c.loop-cell.invariant.1 0 c.loop-cell.cell (refl, stops)
