-- `case_lines::write_case_lines` meets its contract.
use borrow.Author.Rules.{rules}
use mathlib.Core.List.{append_assoc}
use lib.ListN.{length-map}
use Rattle.printing.specs.Puts.{PutsAt}
use Rattle.printing.proofs.SetsLaws.{◌before◌, ◌then◌}
use Rattle.judging.specs.Refusing.{plain_case}
use Rattle.written.specs.Written.{end_line, case_lines, written}
use Rattle.written.proofs.Closing.{closed_both}
use Rattle.case_lines.proofs.write_case_lines.Goals as goal

pub returns : goal.returns
unfolding end_line case_lines written
returns c = let a = c.args in
    let others = c.write_amendments.ensures.puts then c.write_rows.ensures.puts then c.write_members.ensures.puts then c.write_whole_line.ensures.puts in
    let end = c.write_whole_line.new.page in
    let all : PutsAt a.out.now 0 (written (plain_case a.p a.amendments.now a.rows.now a.members.now)) end.out.now end.at =
    simp (closed_both, length-map, append_assoc) (simp append_assoc at (c.write_terms-page.ensures.puts before others.writes)) in
    record { holds = search rules; ends = search rules }
