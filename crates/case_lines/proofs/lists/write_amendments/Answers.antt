-- `case_lines::lists::write_amendments` meets its contract.
use borrow.Author.Rules.{rules}
use native.Mathlib.Omega.{arith}
use lib.Seq.{take_all}
use Rattle.plan.specs.Numbers.{amendment_from}
use Rattle.written.specs.Written.{amendment_line}
use Rattle.case_lines.proofs.TextLaws.{no_lines, line_on}
use Rattle.case_lines.proofs.lists.write_amendments.Goals as goal

pub loop-a-init : goal.loop-a-init
loop-a-init c = record { puts = no_lines _; upper_bound = search rules }

pub write_amendment-requires : goal.write_amendment-requires
write_amendment-requires c = omega (arith, c.requires.0)

pub loop-a-preserved : goal.loop-a-preserved
loop-a-preserved c = let l = c.loop-a in
    let w = c.write_amendment.ensures in
    record {
      puts = line_on amendment_line amendment_from c.args.amendments.now l.a-index (search rules) l.invariant.puts (rw c.from.ensures at w.puts);
      upper_bound = omega (arith, w.upper_bound);
    }

pub returns : goal.returns
returns c = let l = c.loop-a in
    record { puts = rw (take_all l.a-index c.args.amendments.now c.loop-a-test.false) at l.invariant.puts; upper_bound = omega (arith, c.requires.0) }
