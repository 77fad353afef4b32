-- `measures::parts_from` meets its contract.
use mathlib.Core.Path.{◌∙◌}
use native.Mathlib.Nat.{le_of_lt}
use Rattle.parts.specs.Parts.{parts_at}
use Rattle.costs.proofs.Needs.{in_table}
use Rattle.measures.proofs.parts_from.Goals as goal

pub returns : goal.returns
unfolding parts_at
returns c = let G_is = c.requires.3.upto in
    let here = c.of_age-deferred.ensures ∙ G_is c.args.k (in_table c.args.p c.args.rows.now c.args.m c.requires.0 c.args.k c.requires.1 c.requires.2).0 c.requires.2 in
    let entry = c.of_age-entered.ensures ∙ G_is c.args.m.entry c.requires.0.in_range.grown (le_of_lt c.requires.0.in_range.enters) in
    λ i. record { benefit = c.accrued_benefit-benefit.ensures i; deferred = here i; entered = entry i; earned = c.earned-earned.ensures i; added = c.added-added.ensures i; divisor = c.divisor-divisor.ensures i }
