-- `kuyeshan::kuyeshan_read` meets its contract.
use Rattle.walk.specs.Walk.{walk_of}
use Rattle.casefile.specs.Answers.{reading_of}
use Rattle.answer_numbers.proofs.AnswerLaws.{told_reading}
use mathlib.Core.Bool.{false}
use Rattle.kuyeshan.proofs.kuyeshan_read.Goals as goal

pub returns : goal.returns
unfolding reading_of
returns c = let both = told_reading (walk_of false c.args.case.now) c.read_case-read.ensures c.number_told.ensures c.line_told.ensures in
    record { value = both.0; line_after = both.1 }
