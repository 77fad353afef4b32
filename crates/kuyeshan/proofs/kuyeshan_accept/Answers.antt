-- `kuyeshan::kuyeshan_accept` meets its contract.
use Rattle.casefile.specs.Answers.{accepting_of}
use Rattle.answer_numbers.proofs.AnswerLaws.{told_accepting}
use Rattle.kuyeshan.proofs.kuyeshan_accept.Goals as goal

pub returns : goal.returns
returns c = let both = told_accepting (accepting_of c.args.case.now) c.accept_case-accepted.ensures.answer c.number_told.ensures c.line_told.ensures in
    record { value = both.0; line_after = both.1 }
