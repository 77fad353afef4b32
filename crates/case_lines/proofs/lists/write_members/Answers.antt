-- `case_lines::lists::write_members` meets its contract.
use borrow.Author.Rules.{rules}
use native.Mathlib.Omega.{arith}
use lib.Seq.{take_all}
use Rattle.plan.specs.Numbers.{member_from}
use Rattle.written.specs.Written.{member_line}
use Rattle.case_lines.proofs.TextLaws.{no_lines, line_on}
use Rattle.case_lines.proofs.lists.write_members.Goals as goal

pub loop-m-init : goal.loop-m-init
loop-m-init c = record { puts = no_lines _; upper_bound = search rules }

pub write_member-requires : goal.write_member-requires
write_member-requires c = omega (arith, c.requires.0)

pub loop-m-preserved : goal.loop-m-preserved
loop-m-preserved c = let l = c.loop-m in
    let w = c.write_member.ensures in
    record {
      puts = line_on member_line member_from c.args.members.now l.m-index (search rules) l.invariant.puts (rw c.from.ensures at w.puts);
      upper_bound = omega (arith, w.upper_bound);
    }

pub returns : goal.returns
returns c = let l = c.loop-m in
    record { puts = rw (take_all l.m-index c.args.members.now c.loop-m-test.false) at l.invariant.puts; upper_bound = omega (arith, c.requires.0) }
