-- `case_lines::lists::write_row` meets its contract.
use Rattle.fields.specs.Text.{bytes}
use Rattle.written.specs.Written.{row_line}
use Rattle.case_lines.proofs.TextLaws.{five_values}
use Rattle.case_lines.proofs.lists.write_row.Goals as goal

pub returns-clause-puts : goal.returns-clause-puts
unfolding row_line
returns-clause-puts c = let four = rw (c.from.ensures, c.from-2.ensures, c.from-3.ensures) at c.write_four.ensures.puts in
    let weight = rw c.from-4.ensures at c.write_next.ensures.puts in
    five_values (bytes "row=") _ _ _ _ _ four weight c.put.ensures
