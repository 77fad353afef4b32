-- Nothing of a whole case is refused exactly where it keeps every rule.
use mathlib.Core.Path.{◌≡◌, refl}
use mathlib.Core.List.{List, [], ◌∷◌, ◌++◌}
use mathlib.Core.Logic.{◌↔◌}
use native.Mathlib.Omega.{arith}
use Rattle.plan.specs.declared.Member.{Member}
use Rattle.plan.specs.Numbers.{terms_of}
use Rattle.walk.specs.Step.{Head, plan_in, refusal_after}
use Rattle.walk.specs.Kept.{EachAfter}
use Rattle.walk.proofs.Accepted.{both, members_kept}
use Rattle.judging.specs.Refusing.{members_refusal}
use Rattle.judging.specs.Statements.{RefusedExactly}
use Rattle.judging.proofs.OrderLaws.{none_refused}

-- the members one by one
each_kept : (h : Head) (before l : List Member) → EachAfter (refusal_after h) before l ↔ (members_refusal (plan_in h) h.rows before l ≡ 0)
unfolding members_refusal
each_kept h before [] = ((λ k. refl), (λ e. tt))
each_kept h before (m ∷ l) =
    let later = each_kept h (before ++ m ∷ []) l in
    let rules = both (refusal_after h before m) (members_refusal (plan_in h) h.rows (before ++ m ∷ []) l) in
    ((λ k. rules.1 (k.0, later.0 k.1)), (λ e. let f = rules.0 e in (f.0, later.1 f.1)))

pub refused_exactly : RefusedExactly
refused_exactly c full =
    let h : Head = record { terms = terms_of c.plan; amends = c.amends; rows = c.rows } in
    let each = each_kept h [] c.members in
    let own = members_kept h c.members in
    let order = none_refused c in (
      (λ e.
          let k = order.0 e in
          let m = own.0 (each.1 k.2) in
          record { plan = k.0; all_ages = omega (arith, full); few = k.1; member = m.0; persons = m.1 }),
      (λ a. order.1 (a.plan, a.few, each.0 (own.1 (a.member, a.persons)))),
    )
