-- `kuyeshan::value_by` meets its contract.
use lib.ListN.{length}
use Rattle.valuation.specs.Answers.{valued_of}
use Rattle.answer_numbers.proofs.AnswerLaws.{told_written}
use Rattle.kuyeshan.proofs.value_by.Goals as goal

pub returns : goal.returns
returns c = let a = c.value_case_by-answer.ensures in
    let told = told_written (valued_of (length c.args.out.now) c.args.case.now) a.value c.number_told.ensures c.line_told.ensures c.written_told.ensures in
    record { value = told.0; out_after = a.out_after; line_after = told.1; written_after = told.2 }
