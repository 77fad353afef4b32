-- The fields so far are written.
use Prim.Native.Nat.{◌+◌, ◌*◌, ◌≤◌}
use lib.ListN.{take}
use Rattle.printing.specs.Puts.{Puts}
use Rattle.printed_lines.specs.Lines.{fields}
use Rattle.printed_lines.proofs.write_fields.Given as goal

abbrev pub invariant-loop-cents : goal.invariant-loop-cents
invariant-loop-cents l =
    record {
      puts : Puts l.initial.page (fields (take l.cents-index l.amounts)) l.page;
      upper_bound : l.page.at ≤ l.initial.page.at + 24 * l.cents-index;
    }
