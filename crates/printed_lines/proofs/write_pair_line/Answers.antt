-- `printed_lines::write_pair_line` meets its contract.
use mathlib.Core.List.{append_assoc}
use Rattle.printing.proofs.SetsLaws.{◌then◌}
use Rattle.printed_lines.specs.Lines.{pair_line}
use Rattle.printed_lines.proofs.write_pair_line.Goals as goal

pub returns : goal.returns
unfolding pair_line
returns c =
    simp append_assoc
    (simp append_assoc at (c.write_start.ensures.puts then c.write_next.ensures.puts then c.put.ensures))
