-- The benefits of a person's lines: those of some lines and of others add up.
use Prim.Native.Nat.{ℕ, ◌+◌}
use mathlib.Core.Path.{◌≡◌, refl, sym, ◌∙◌}
use mathlib.Core.Bool.{cond}
use mathlib.Core.List.{List, [], ◌∷◌, ◌++◌}
use lib.Dec.{eqb}
use native.Mathlib.Nat.{zero-add, add_assoc, add-zero}
use borrow.Author.Tests.{ne_eqb}
use Rattle.plan.specs.declared.Plan.{Plan}
use Rattle.plan.specs.declared.Member.{Member}
use Rattle.plan.specs.Benefit.{B}
use Rattle.rule_order.specs.Acceptance.{person_sum}
use Rattle.rule_order.specs.Lone.{Absent}

module _ (p : Plan) (rows : List (List ℕ)) (person : ℕ) where
  pub sum_both : (some others : List Member) → person_sum p rows person (some ++ others) ≡ person_sum p rows person some + person_sum p rows person others
  unfolding person_sum
  sum_both [] others = sym (zero-add (person_sum p rows person others))
  sum_both (m ∷ some) others = rw (sum_both some others) (sym (add_assoc _ _ _))

  pub sum_absent : (l : List Member) → Absent person l → person_sum p rows person l ≡ 0
  unfolding person_sum
  sum_absent [] none = refl
  sum_absent (m ∷ l) none = rw (ne_eqb m.person person none.0, sum_absent l none.1)

  pub sum_next : (before : List Member) (m : Member) → person_sum p rows person (before ++ m ∷ []) ≡ person_sum p rows person before + cond (eqb m.person person) (B p rows m p.retire) 0
  unfolding person_sum
  sum_next before m = sum_both before (m ∷ []) ∙ rw add-zero
