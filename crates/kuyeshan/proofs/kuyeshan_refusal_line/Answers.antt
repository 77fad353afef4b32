-- `kuyeshan::kuyeshan_refusal_line` meets its contract.
use lib.ListN.{length}
use Rattle.report.specs.Lines.{refusal_line}
use Rattle.fitting.specs.Fitting.{fitting}
use Rattle.answer_numbers.proofs.AnswerLaws.{told_written}
use mathlib.Core.Path.{refl}
use Rattle.kuyeshan.proofs.kuyeshan_refusal_line.Goals as goal

pub returns : goal.returns
returns c = let a = c.refusal_line-printed.ensures in
    let told = told_written (fitting (length c.args.out.now) (refusal_line c.args.number c.args.line)) a.value c.number_told.ensures refl c.written_told.ensures in
    record { value = told.0; out_after = a.out_after; written_after = told.2 }
