-- The refusals of a case in their order: the plan, the count of the members, the first wrong one of them.
use mathlib.Core.Path.{◌≡◌, sym, ◌∙◌}
use mathlib.Core.List.{List, [], ◌∷◌, ◌++◌, append_assoc, append-nil}
use mathlib.Core.Logic.{◌↔◌}
use Prim.Native.Nat.{ℕ, ◌≤◌, ◌<◌}
use lib.ListN.{length}
use lib.Dec.{leb}
use borrow.Author.Tests.{eq-eqb, ne_eqb, leb-true, le-leb, lt-leb}
use Rattle.plan.specs.declared.Plan.{Plan}
use Rattle.plan.specs.declared.Member.{Member}
use Rattle.rules.specs.Refusals.{surplus_member}
use Rattle.rules.specs.Rules.{unless}
use Rattle.rules.proofs.RuleLaws.{first_refuses, first_passes, first_alone, all_kept, kept}
use Rattle.rule_order.specs.Acceptance.{amended_refusal, person_sum, line_refusal}
use Rattle.walk.specs.Lines.{most_members}
use Rattle.walk.specs.Step.{last_id}
use Rattle.walk.specs.Walk.{Case, valued_plan}
use Rattle.judging.specs.Refusing.{members_refusal, case_refusal}
use Rattle.judging.specs.Statements.{RefusedInOrder}

module _ (c : Case) where
  abbrev plan_of : ℕ
  plan_of = amended_refusal c.plan c.amends c.rows

  abbrev members_of : ℕ
  members_of = members_refusal (valued_plan c) c.rows [] c.members

  pub plan_refused : (plan_of ≡ 0 → ⊥) → plan_of ≡ case_refusal c
  unfolding case_refusal
  plan_refused some = simp (ne_eqb plan_of 0 some)

  pub count_refused : plan_of ≡ 0 → most_members < length c.members → surplus_member ≡ case_refusal c
  unfolding case_refusal
  count_refused plan many = simp (eq-eqb plan_of 0 plan, lt-leb (length c.members) most_members many)

  pub count_refuses : {n : ℕ} → plan_of ≡ 0 → n ≡ unless (leb (length c.members) most_members) surplus_member → (n ≡ 0 → ⊥) → n ≡ case_refusal c
  unfolding case_refusal
  count_refuses plan e some =
      let count = unless (leb (length c.members) most_members) surplus_member in
      e ∙ sym (first_passes plan_of (count ∷ members_of ∷ []) plan ∙ first_refuses count (members_of ∷ []) (λ z. some (e ∙ z)))

  pub members_judged : plan_of ≡ 0 → length c.members ≤ most_members → members_of ≡ case_refusal c
  unfolding case_refusal
  members_judged plan few =
      simp (eq-eqb plan_of 0 plan, le-leb (length c.members) most_members few) (sym (first_alone members_of))

  pub none_refused : (case_refusal c ≡ 0) ↔ ((plan_of ≡ 0) × (length c.members ≤ most_members) × (members_of ≡ 0))
  unfolding case_refusal
  none_refused =
      let few = leb (length c.members) most_members in (
        (λ e.
            let k = all_kept (plan_of ∷ unless few surplus_member ∷ members_of ∷ []) e in
            (k.0, leb-true _ _ (kept few 26 k.1.0), k.1.1.0)),
        (λ k. sym (members_judged k.0 k.1) ∙ k.2),
      )

-- ---- the first wrong member, after those that are kept
module _ (p : Plan) (rows : List (List ℕ)) where
  abbrev refused_of : (before : List Member) → Member → ℕ
  refused_of before m = line_refusal p rows (last_id before) (person_sum p rows m.person before) m

  first_wrong : (before l later : List Member) (m : Member) → members_refusal p rows before l ≡ 0 → (refused_of (before ++ l) m ≡ 0 → ⊥) → members_refusal p rows before (l ++ m ∷ later) ≡ refused_of (before ++ l) m
  unfolding members_refusal
  first_wrong before [] later m kept wrong =
      let here : refused_of (before ++ []) m ≡ refused_of before m = rw (append-nil before) in
      first_refuses (refused_of before m) (members_refusal p rows (before ++ m ∷ []) later ∷ []) (λ z. wrong (here ∙ z)) ∙ sym here
  first_wrong before (a ∷ l) later m kept wrong =
      let k = all_kept (refused_of before a ∷ members_refusal p rows (before ++ a ∷ []) l ∷ []) kept in
      let whole = append_assoc before (a ∷ []) l in
      let rest = members_refusal p rows (before ++ a ∷ []) (l ++ m ∷ later) in
      let on = rw whole at (first_wrong (before ++ a ∷ []) l later m k.1.0 (λ z. wrong (rw whole at z))) in
      first_passes (refused_of before a) (rest ∷ []) k.0 ∙ first_alone rest ∙ on

pub refused_in_order : RefusedInOrder
refused_in_order c =
    record {
      plan = λ some. sym (plan_refused c some);
      count = λ plan many. sym (count_refused c plan many);
      member = λ plan few before later m is kept wrong. sym (members_judged c plan few) ∙ rw is (first_wrong (valued_plan c) c.rows [] before later m kept wrong);
    }
