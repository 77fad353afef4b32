-- `kuyeshan::kuyeshan_value_member` meets its contract.
use mathlib.Core.Path.{ap, ◌∙◌}
use Rattle.answer_numbers.specs.Values.{refused_by, figures_after}
use Rattle.kuyeshan.proofs.kuyeshan_value_member.Goals as goal

pub returns-in-Ok : goal.returns-in-Ok
returns-in-Ok c = let v = rw (c.from-p.ensures, c.from-m.ensures) at c.in-Ok.ensures.figures in
    record { value = ap refused_by v; figures_after = ap (λ o. figures_after o c.args.figures.now) v }

pub returns-in-Err : goal.returns-in-Err
returns-in-Err c = let v = rw (c.from-p.ensures, c.from-m.ensures) at c.in-Err.ensures.figures in
    record { value = c.number.ensures ∙ ap refused_by v; figures_after = ap (λ o. figures_after o c.args.figures.now) v }
