-- Lines one after the other.
use mathlib.Core.List.{List, ◌++◌}
use Prim.Native.Nat.{ℕ}
use Rattle.printing.specs.declared.Page.{Page}
use Rattle.printing.specs.Puts.{Puts}
use Rattle.printing.proofs.SetsLaws.{◌then◌}
use Rattle.written.specs.Written.{closed_lines}
use Rattle.written.proofs.Closing.{closed_both}

-- some lines and then others
pub lines_then : (a b : List (List ℕ)) {old x new : Page} → Puts old (closed_lines a) x → Puts x (closed_lines b) new → Puts old (closed_lines (a ++ b)) new
lines_then a b p q = rw (closed_both a b) (p then q)
