-- `parts::figures_from` meets its contract.
use mathlib.Core.Path.{◌∙◌}
use Prim.Native.Nat.{◌*◌}
use Rattle.rounding.specs.Nearest.{nearest}
use Rattle.parts.specs.Parts.{figures_from}
use Rattle.parts.proofs.figures_from.Goals as goal

pub returns : goal.returns
unfolding figures_from
returns c = let q = c.args.q in
    let cost = c.share-cost.ensures ∙ (λ i. nearest (c.cost_factor.ensures i * q.added) q.divisor) in
    let liability = c.share-liability.ensures ∙ (λ i. nearest (c.liability_factor.ensures i * q.earned) q.divisor) in
    λ i. record { benefit = q.benefit; value = c.worth-value.ensures.0 i; cost = cost i; liability = liability i }
