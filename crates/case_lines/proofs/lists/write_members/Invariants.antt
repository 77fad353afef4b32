-- The lines of the members so far are written.
use mathlib.Core.List.{map}
use Prim.Native.Nat.{◌+◌, ◌*◌, ◌≤◌}
use lib.ListN.{take}
use Rattle.plan.specs.Numbers.{member_from}
use Rattle.printing.specs.Puts.{Puts}
use Rattle.written.specs.Written.{member_line, closed_lines}
use Rattle.case_lines.proofs.lists.write_members.Given as goal

abbrev pub invariant-loop-m : goal.invariant-loop-m
invariant-loop-m l =
    record {
      puts : Puts l.initial.page (closed_lines (map member_line (map member_from (take l.m-index l.members)))) l.page;
      upper_bound : l.page.at ≤ l.initial.page.at + l.m-index * 124;
    }
