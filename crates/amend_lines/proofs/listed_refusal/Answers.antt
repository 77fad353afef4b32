-- `amend_lines::listed_refusal` meets its contract.
use mathlib.Core.Path.{refl, sym, ◌∙◌}
use mathlib.Core.List.{[], ◌∷◌, ◌++◌}
use mathlib.Core.Bool.{cond}
use lib.ListN.{take}
use native.Mathlib.Omega.{arith}
use Rattle.amendments.specs.Force.{amendments_from}
use Rattle.amendments.specs.Judging.{unit_refusal}
use Rattle.rules.proofs.RefusalLaws.{numbered, handed_on}
use Rattle.amend_lines.proofs.RefusalLaws.{settled_first, refusal_listed, stored, many, kept_next}
use Rattle.amend_lines.proofs.listed_refusal.Goals as goal

pub returns-in_err-own_refusal-clause-value : goal.returns-in_err-own_refusal-clause-value
returns-in_err-own_refusal-clause-value c = let a = c.args in
    let refusal = c.in_err-own_refusal.field-0.0 in
    let long = many a.list.now a.n (omega (arith, c.requires.0, c.requires.1)) in
    handed_on refusal c.from_residual.result c.from_residual.ensures.1
    ∙ settled_first a.ranges _ (cond a.more 0 (unit_refusal a.p (amendments_from (take a.n a.list.now) ++ a.a ∷ []))) _ c.in_err-own_refusal.ensures (numbered refusal)
    ∙ sym (refusal_listed a.ranges a.p _ a.a a.more (omega (arith, long, c.requires.1)))

pub unit_refusal-requires : goal.unit_refusal-requires
unit_refusal-requires c on = let a = c.args in
    rw (c.from.ensures, stored a.list.now a.n a.a (omega (arith, c.requires.0, c.requires.1)))
    (kept_next a.ranges _ a.a _ c.in_ok-own_refusal.ensures refl c.requires.2 on)
