-- What the range rules say of a member line, and what is held for its person then.
use Prim.Native.Nat.{ℕ, ◌+◌}
use mathlib.Core.Path.{◌≡◌, sym, ap, ◌∙◌}
use mathlib.Core.List.{List}
use lib.Dec.{leb}
use Rattle.plan.specs.declared.Plan.{Plan}
use Rattle.plan.specs.declared.Member.{Member}
use Rattle.plan.specs.Benefit.{B}
use Rattle.rules.specs.Rules.{unless}
use Rattle.rule_order.specs.Acceptance.{member_refusal, line_refusal}
use Rattle.rule_order.proofs.Facts.{line_refused, line_summed}
use Rattle.persons.specs.Held.{held}

module _ (p : Plan) (rows : List (List ℕ)) (before : ℕ) (m : Member) (sums : List (List ℕ)) where
  -- its own rules refuse it
  pub judges_own : {n : ℕ} → n ≡ member_refusal p rows before m → (n ≡ 0 → ⊥) → n ≡ line_refusal p rows before (held sums m.person) m
  judges_own e some = e ∙ sym (line_refused p rows before (held sums m.person) m (λ z. some (e ∙ z)))

  -- they don't, and its benefit is added
  pub judges_added : {r b : ℕ} → 0 ≡ member_refusal p rows before m → b ≡ B p rows m p.retire → r ≡ unless (leb (held sums m.person + b) 100000000) 29 → r ≡ line_refusal p rows before (held sums m.person) m
  judges_added kept is e =
      e ∙ ap (λ (x : ℕ). unless (leb (held sums m.person + x) 100000000) 29) is ∙ sym (line_summed p rows before (held sums m.person) m (sym kept))
