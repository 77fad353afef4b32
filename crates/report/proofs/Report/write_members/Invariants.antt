-- The lines of the members so far are written.
use Prim.Native.Nat.{◌+◌, ◌*◌, ◌≤◌}
use Rattle.printing.specs.Puts.{Puts}
use Rattle.report.specs.MemberLines.{lines_in}
use Rattle.report.proofs.Report.write_members.Given as goal

abbrev pub invariant-loop-j : goal.invariant-loop-j
invariant-loop-j l =
    record {
      puts : Puts l.initial.page (lines_in l.self.members.now l.self.worked.now l.j) l.page;
      upper_bound : l.page.at ≤ l.initial.page.at + l.j * 133;
    }
