-- `report::Report::write_members` meets its contract.
use borrow.Author.Rules.{rules}
use native.Mathlib.Omega.{arith}
use mathlib.Core.Path.{◌≡◌}
use lib.ListN.{length}
use Rattle.report.proofs.PrintedLaws.{lines_none, line_on}
use Rattle.report.proofs.Report.write_members.Goals as goal

pub loop-j-init : goal.loop-j-init
loop-j-init c = record { puts = lines_none _ _ _; upper_bound = search rules }

pub write_member_line-requires : goal.write_member_line-requires
write_member_line-requires c = omega (arith, c.requires.0)

pub loop-j-preserved : goal.loop-j-preserved
loop-j-preserved c = let l = c.loop-j in
    let w = c.write_member_line.ensures in
    record {
      puts = line_on _ _ l.j l.invariant.puts (rw (c.from-m.ensures, c.figures_from-f.ensures) at w.puts);
      upper_bound = omega (arith, w.upper_bound);
    }

pub returns : goal.returns
returns c = let l = c.loop-j in
    let all : l.j ≡ length c.args.self.now.members.now = omega arith in
    record { puts = rw all at l.invariant.puts; upper_bound = omega (arith, l.invariant.upper_bound, c.requires.0) }
