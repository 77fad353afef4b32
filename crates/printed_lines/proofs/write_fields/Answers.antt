-- `printed_lines::write_fields` meets its contract.
use borrow.Author.Rules.{rules}
use native.Mathlib.Omega.{arith}
use lib.Seq.{take_all}
use Rattle.printed_lines.proofs.LineLaws.{fields_none, field_on}
use Rattle.printed_lines.proofs.write_fields.Goals as goal

pub loop-cents-init : goal.loop-cents-init
loop-cents-init c = record { puts = fields_none _; upper_bound = search rules }

pub loop-cents-preserved : goal.loop-cents-preserved
loop-cents-preserved c = let l = c.loop-cents in
    let w = c.write_field.ensures in
    record {
      puts = field_on c.args.amounts.now l.cents-index (search rules) l.invariant.puts w.puts;
      upper_bound = omega (arith, w.upper_bound);
    }

pub returns : goal.returns
returns c = let l = c.loop-cents in
    record { puts = rw (take_all l.cents-index c.args.amounts.now c.loop-cents-test.false) at l.invariant.puts; upper_bound = omega arith }
