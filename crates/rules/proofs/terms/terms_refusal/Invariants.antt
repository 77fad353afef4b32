-- `rules::terms::terms_refusal` meets its contract.
use mathlib.Core.Path.{◌≡◌}
use Rattle.rules.proofs.TermLaws.{terms_from}
use Rattle.rules.proofs.terms.terms_refusal.Given as goal

abbrev pub invariant-loop-k : goal.invariant-loop-k
invariant-loop-k l = terms_from l.terms 0 ≡ terms_from l.terms l.k
