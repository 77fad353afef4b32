-- `shared_fill::fill_shared` meets its contract: at first no column is filled.
use native.Mathlib.Omega.{arith}
use Rattle.rule_order.proofs.Facts.{plan_facts}
use Rattle.shared_fill.proofs.fill_shared.Goals as goal

pub deferred_annuity-g-requires : goal.deferred_annuity-g-requires
deferred_annuity-g-requires c = let f = plan_facts c.args.p c.args.rows c.requires.plan in
    (f.table, omega (arith, f.head.interest), omega (arith, f.head.retire.0), omega (arith, f.head.retire.1))

pub fill_from_shared-requires : goal.fill_from_shared-requires
fill_from_shared-requires c = (c.requires, record { deferred = c.deferred_annuity-g.ensures; filled = c.new-columns.ensures _ })
