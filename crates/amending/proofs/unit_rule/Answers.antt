-- `amending::unit_rule` meets its contract.
use mathlib.Core.Path.{◌≡◌}
use native.Mathlib.Omega.{arith}
use lib.ListN.{length}
use Rattle.rules.proofs.RefusalLaws.{told_unless}
use Rattle.amendments.proofs.Keeping.{unit_none, unit_over, unit_judged}
use Rattle.amending.proofs.unit_rule.Goals as goal

pub returns-then-is_empty : goal.returns-then-is_empty
returns-then-is_empty c =
    let none : length c.args.list.now ≡ 0 = grind arith in
    unit_none c.args.p c.args.list.now none

pub returns-then-most-p : goal.returns-then-most-p
returns-then-most-p c =
    let some : length c.args.list.now ≡ 0 → ⊥ = grind arith in
    unit_over c.args.p c.args.list.now some (omega (arith, c.if-most-p.true, c.unit_most-most.ensures))

pub returns : goal.returns
returns c =
    let some : length c.args.list.now ≡ 0 → ⊥ = grind arith in
    unit_judged c.args.p c.args.list.now some _ _ _ c.unit_most-most.ensures c.if-most-p.false c.additions.ensures (told_unless _ _ _ c.unless.ensures)
