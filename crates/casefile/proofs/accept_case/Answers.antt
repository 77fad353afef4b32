-- `casefile::accept_case` meets its contract.
use Rattle.rules.proofs.RefusalLaws.{told_at_line}
use Rattle.amend_lines.proofs.ArrayLaws.{list_none}
use Rattle.casefile.proofs.AnswerLaws.{whole_accepted, refused_accepting}
use Rattle.casefile.proofs.accept_case.Goals as goal

pub walk_lines-requires : goal.walk_lines-requires
walk_lines-requires c = list_none

pub returns-in_err-outline : goal.returns-in_err-outline
returns-in_err-outline c =
    let a = refused_accepting _ _ _ _ _ c.walk_lines.ensures _ _ _ c.in_err-outline.was (told_at_line _ c.from_residual.result c.from_residual.ensures.1) in
    record { answer = a.answer; amendments_after = a.amendments_after; rows_after = a.rows_after; members_after = a.members_after }

pub returns : goal.returns
returns c =
    let a = whole_accepted _ _ _ _ _ c.walk_lines.ensures _ _ _ c.in_ok-outline.was in
    record { answer = a.answer; amendments_after = a.amendments_after; rows_after = a.rows_after; members_after = a.members_after }
