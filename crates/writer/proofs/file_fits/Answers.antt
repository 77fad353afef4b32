-- `writer::file_fits` meets its contract.
use borrow.Author.Rules.{rules}
use native.Mathlib.Omega.{arith}
use Rattle.fitting.proofs.FittingLaws.{measured}
use Rattle.writer.proofs.FileLaws.{few_of, surely_fits}
use Rattle.writer.proofs.file_fits.Goals as goal

pub returns-then-room-ge-LONGEST_FILE : goal.returns-then-room-ge-LONGEST_FILE
returns-then-room-ge-LONGEST_FILE c = surely_fits _ _ (search rules) c.requires (omega arith)

pub write_case_lines-needed-requires : goal.write_case_lines-needed-requires
write_case_lines-needed-requires c = few_of c.args.p c.args.amendments.now c.args.rows c.args.members.now c.requires

pub returns : goal.returns
returns c = measured _ c.write_case_lines-needed.ensures
