-- `kuyeshan::kuyeshan_write_case` meets its contract.
use lib.ListN.{length}
use mathlib.Core.Path.{refl}
use Rattle.plan.specs.Numbers.{plan_from}
use Rattle.judging.specs.Refusing.{plain_case}
use Rattle.writer.specs.Files.{file_of}
use Rattle.answer_numbers.proofs.AnswerLaws.{told_written}
use Rattle.kuyeshan.proofs.kuyeshan_write_case.Goals as goal

pub returns : goal.returns
returns c = let g = c.args in
    let a = rw c.from-p.ensures at c.write_case-file.ensures in
    let told = told_written (file_of (length g.out.now) (plain_case (plan_from g.plan.now) g.amendments.now g.rows.now g.members.now)) a.value c.number_told.ensures refl c.written_told.ensures in
    record { value = told.0; out_after = a.out_after; written_after = told.2 }
