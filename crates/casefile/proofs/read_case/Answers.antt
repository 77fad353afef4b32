-- `casefile::read_case` meets its contract.
use Rattle.rules.proofs.RefusalLaws.{told_at_line}
use Rattle.amend_lines.proofs.ArrayLaws.{list_none}
use Rattle.casefile.proofs.AnswerLaws.{whole_read, refused_reading}
use Rattle.casefile.proofs.read_case.Goals as goal

pub walk_lines-requires : goal.walk_lines-requires
walk_lines-requires c = list_none

pub returns-in_err-walk_lines : goal.returns-in_err-walk_lines
returns-in_err-walk_lines c =
    refused_reading _ _ _ _ _ c.walk_lines.ensures c.in_err-walk_lines.was (told_at_line _ c.from_residual.result c.from_residual.ensures.1)

pub returns : goal.returns
returns c = whole_read _ _ _ _ _ c.walk_lines.ensures c.in_ok-walk_lines.was
