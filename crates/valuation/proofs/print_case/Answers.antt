-- `valuation::print_case` meets its contract.
use mathlib.Core.Path.{refl, ◌∙◌, ap}
use Rattle.fitting.specs.Fitting.{answer, buffer}
use Rattle.valuation.proofs.AnswerLaws.{program_lines, program_refusal}
use Rattle.valuation.proofs.print_case.Goals as goal

pub returns-in-Ok : goal.returns-in-Ok
returns-in-Ok c = let v = c.in-Ok.ensures in
    let is = program_lines c.args.case.now c.args.out.now v.value v.out_after in
    record { value = is.0; out_after = is.1; writes = λ room. refl }

pub returns-in-Err : goal.returns-in-Err
returns-in-Err c = let a = c.args in
    let v = c.in-Err.ensures in
    let is = program_refusal a.case.now a.out.now v.value v.out_after in
    let w = rw is.1 at c.print_refusal.ensures in
    record { value = w.value ∙ ap answer is.0; out_after = w.out_after ∙ ap (λ o. buffer o a.out.now) is.0; writes = w.writes }
