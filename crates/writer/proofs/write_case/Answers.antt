-- `writer::write_case` meets its contract.
use mathlib.Core.Path.{◌≡◌, sym, ◌∙◌}
use Rattle.rules.proofs.RefusalLaws.{numbered, told_plain}
use Rattle.judging.specs.Refusing.{plain_case, case_refusal}
use Rattle.writer.proofs.FileLaws.{few_of, file_refused, file_too_long, file_written}
use Rattle.writer.proofs.write_case.Goals as goal
use Rattle.writer.proofs.write_case.Goals.{In_ok-case_refusal}

-- nothing is refused
none : (c : In_ok-case_refusal) → let g = c.args in case_refusal (plain_case g.p g.amendments.now g.rows g.members.now) ≡ 0
none c = sym c.in_ok-case_refusal.ensures

pub returns-in_err-case_refusal : goal.returns-in_err-case_refusal
returns-in_err-case_refusal c = let g = c.args in
    let refusal = c.in_err-case_refusal.field-0.0 in
    let kept = file_refused (plain_case g.p g.amendments.now g.rows g.members.now) g.out.now c.in_err-case_refusal.ensures (numbered refusal) in
    record { value = told_plain refusal c.from_residual.result c.from_residual.ensures.1 ∙ kept.0; out_after = kept.1 }

pub file_fits-requires : goal.file_fits-requires
file_fits-requires c = none (goal.at.file_fits-requires c).In_ok-case_refusal

pub returns-then-not-file_fits : goal.returns-then-not-file_fits
returns-then-not-file_fits c = let g = c.args in
    let kept = file_too_long (plain_case g.p g.amendments.now g.rows g.members.now) g.out.now (none (goal.at.returns-then-not-file_fits c).In_ok-case_refusal) c.file_fits.ensures c.if-not-file_fits.true in
    record { value = rw (c.into.ensures.0, c.into.ensures.1) kept.0; out_after = kept.1 }

pub write_case_lines-requires : goal.write_case_lines-requires
write_case_lines-requires c = let g = c.args in
    few_of g.p g.amendments.now g.rows g.members.now (none (goal.at.write_case_lines-requires c).In_ok-case_refusal)

pub returns : goal.returns
returns c = let g = c.args in
    let file = file_written (plain_case g.p g.amendments.now g.rows g.members.now) g.out.now (none (goal.at.returns c).In_ok-case_refusal) c.file_fits.ensures c.if-not-file_fits.false c.write_case_lines.ensures in
    record { value = file.0; out_after = file.1 }
