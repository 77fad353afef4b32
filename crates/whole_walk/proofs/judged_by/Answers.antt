-- `whole_walk::judged_by` meets its contract.
use mathlib.Core.Path.{sym, ◌∙◌}
use Rattle.fields.proofs.SplitLaws.{off}
use Rattle.whole_walk.proofs.judged_by.Goals as goal

pub as_valued-requires : goal.as_valued-requires
as_valued-requires c = rw c.from-p.ensures (c.requires c.if-ranges.true)

pub returns-then-ranges : goal.returns-then-ranges
returns-then-ranges c on = rw c.from-p.ensures at c.as_valued.ensures

pub returns-else-ranges : goal.returns-else-ranges
returns-else-ranges c on = off (sym on ∙ c.if-ranges.false)
