-- `case_lines::lists::write_rows` meets its contract.
use borrow.Author.Rules.{rules}
use native.Mathlib.Omega.{arith}
use lib.Seq.{take_all}
use Rattle.rates.specs.Table.{first_age}
use Rattle.written.specs.Written.{row_lines}
use Rattle.case_lines.proofs.TextLaws.{no_lines, row_on}
use Rattle.case_lines.proofs.lists.write_rows.Goals as goal

pub loop-j-init : goal.loop-j-init
unfolding row_lines
loop-j-init c = record { puts = no_lines _; upper_bound = search rules }

pub loop-j-preserved : goal.loop-j-preserved
loop-j-preserved c = let l = c.loop-j in
    let w = c.write_row.ensures in
    record {
      puts = row_on first_age c.args.rows l.j (search rules) (omega arith) l.invariant.puts w.puts;
      upper_bound = omega (arith, w.upper_bound);
    }

pub returns : goal.returns
returns c = let l = c.loop-j in
    record { puts = rw (take_all l.j c.args.rows (search rules)) at l.invariant.puts; upper_bound = search rules }
