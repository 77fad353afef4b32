-- The lines of the rows so far are written.
use Prim.Native.Nat.{◌+◌, ◌*◌, ◌≤◌}
use lib.ListN.{take}
use Rattle.rates.specs.Table.{first_age}
use Rattle.printing.specs.Puts.{Puts}
use Rattle.written.specs.Written.{row_lines, closed_lines}
use Rattle.case_lines.proofs.lists.write_rows.Given as goal

abbrev pub invariant-loop-j : goal.invariant-loop-j
invariant-loop-j l =
    record {
      puts : Puts l.initial.page (closed_lines (row_lines first_age (take l.j l.row-items))) l.page;
      upper_bound : l.page.at ≤ l.initial.page.at + l.j * 121;
    }
