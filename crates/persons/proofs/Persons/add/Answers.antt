-- `persons::Persons::add` meets its contract.
use Prim.Native.Nat.{◌<◌}
use native.Mathlib.Omega.{arith}
use Rattle.persons.proofs.SearchLaws.{found_low}
use Rattle.persons.proofs.LineLaws.{adds_new, adds_over, adds_later}
use Rattle.persons.proofs.Persons.add.Goals as goal
use Rattle.persons.proofs.Persons.add.Goals.{After-find-cell}

-- the cell is one of them
cell_low : (c : After-find-cell) → c.find-cell.result < 6098
cell_low c =
    omega (arith, found_low _ _ _ _ c.requires.0.early c.find-cell.ensures, c.requires.1)

pub offset_bounds-self-cell : goal.offset_bounds-self-cell
offset_bounds-self-cell c = omega (arith, cell_low c)

pub bounds-self-cell : goal.bounds-self-cell
bounds-self-cell c = cell_low (goal.at.bounds-self-cell c).After-find-cell

pub offset_bounds-self-cell-then-line-eq0 : goal.offset_bounds-self-cell-then-line-eq0
offset_bounds-self-cell-then-line-eq0 c = omega (arith, cell_low (goal.at.offset_bounds-self-cell-then-line-eq0 c).After-find-cell)

pub bounds-self-cell-then-line-eq0 : goal.bounds-self-cell-then-line-eq0
bounds-self-cell-then-line-eq0 c = cell_low (goal.at.bounds-self-cell-then-line-eq0 c).After-find-cell

pub returns-then-line-eq0 : goal.returns-then-line-eq0
returns-then-line-eq0 c = let r = c.requires in
    let adds = adds_new r.0 r.2 c.find-cell.ensures c.args.benefit c.if-line-eq0.true r.1 r.3 in
    record { refusal = adds.0; rooted = adds.1.0; other_after = adds.1.1 }

pub returns-then-sum-gt100000000-clause-refusal : goal.returns-then-sum-gt100000000-clause-refusal
returns-then-sum-gt100000000-clause-refusal c = adds_over c.requires.0 c.requires.2 c.find-cell.ensures c.args.benefit c.if-line-eq0.false c.if-sum-gt100000000.true

pub returns : goal.returns
returns c = let r = c.requires in
    let adds = adds_later r.0 r.2 c.find-cell.ensures c.args.benefit c.if-line-eq0.false c.if-sum-gt100000000.false in
    record { refusal = adds.0; rooted = adds.1.0; other_after = adds.1.1 }
