-- The lines of the amendments so far are written.
use mathlib.Core.List.{map}
use Prim.Native.Nat.{◌+◌, ◌*◌, ◌≤◌}
use lib.ListN.{take}
use Rattle.amendments.specs.Force.{amendments_from}
use Rattle.printing.specs.Puts.{Puts}
use Rattle.written.specs.Written.{amendment_line, closed_lines}
use Rattle.case_lines.proofs.lists.write_amendments.Given as goal

abbrev pub invariant-loop-a : goal.invariant-loop-a
invariant-loop-a l =
    record {
      puts : Puts l.initial.page (closed_lines (map amendment_line (amendments_from (take l.a-index l.amendments)))) l.page;
      upper_bound : l.page.at ≤ l.initial.page.at + l.a-index * 100;
    }
