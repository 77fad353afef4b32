-- `rules::terms::head_refusal` meets its contract.
use mathlib.Core.Path.{ap, ◌∙◌}
use mathlib.Core.List.{List, []}
use Prim.Native.Nat.{ℕ}
use Rattle.rules.specs.Rules.{first_among}
use Rattle.rules.specs.Heading.{ruled, term_rules, head_rules}
use Rattle.rules.proofs.terms.head_refusal.Goals as goal

pub returns : goal.returns
unfolding head_rules
returns c = c.terms_refusal.ensures
    ∙ ap (λ (t : List ℕ). first_among (ruled term_rules [] t)) c.from.ensures
