-- A member that is accepted in a file is accepted alone too: the id of the one before it and the benefits of the same person before it are not asked for.
use mathlib.Core.Path.{◌≡◌, sym, ◌∙◌}
use mathlib.Core.Bool.{Bool, true, false, ◌&&◌}
use mathlib.Core.List.{List, [], ◌∷◌, ◌++◌}
use Prim.Native.Nat.{ℕ, zero, suc}
use native.Mathlib.Omega.{arith}
use borrow.Author.Tests.{lt-ltb}
use lib.Dec.{ltb}
use lib.ListN.{drop}
use Rattle.plan.specs.declared.Plan.{Plan}
use Rattle.plan.specs.declared.Amendment.{Amendment}
use Rattle.plan.specs.declared.Member.{Member}
use Rattle.amendments.specs.Force.{as_valued}
use Rattle.rules.specs.Rules.{unless, first_among, between}
use Rattle.rule_order.specs.Acceptance.{amended_refusal, field_rules, benefit_rules, member_refusal, line_refusal, lone_refusal}
use Rattle.rule_order.proofs.LoneLaws.{own_alone}
use Rattle.rules.proofs.RuleLaws.{all_kept}
use Rattle.rules.proofs.RuleLaws.{first_passes, first_alone}

-- the first rule may be another that is kept
first_other : (a a' : ℕ) (later : List ℕ) → (a ≡ 0 → a' ≡ 0) → first_among (a ∷ later) ≡ 0 → first_among (a' ∷ later) ≡ 0
first_other a a' later kept e =
    let h = (all_kept (a ∷ later) e).0 in
    first_passes a' later (kept h) ∙ sym (first_passes a later h) ∙ e

kept_part : (t u w : Bool) → w ≡ true → unless (t && u) 21 ≡ 0 → unless (t && w) 21 ≡ 0
kept_part true u w there e = rw there
kept_part false u w there e = e

lone_id : (before id : ℕ) → unless (between 1 999999999 id && ltb before id) 21 ≡ 0 → unless (between 1 999999999 id && ltb 0 id) 21 ≡ 0
lone_id before zero e = e
lone_id before (suc id) e =
    kept_part (between 1 999999999 (suc id)) (ltb before (suc id)) (ltb 0 (suc id)) (lt-ltb 0 (suc id) (omega arith)) e

module _ (p : Plan) (rows : List (List ℕ)) (before : ℕ) (m : Member) where
  no_id_before : member_refusal p rows before m ≡ 0 → member_refusal p rows 0 m ≡ 0
  unfolding member_refusal field_rules
  no_id_before = first_other _ _ (drop 1 (field_rules p before m) ++ benefit_rules p rows m) (lone_id before m.id)

  lone_line : member_refusal p rows before m ≡ 0 → line_refusal p rows 0 0 m ≡ 0
  lone_line member = own_alone p rows 0 m ∙ no_id_before member

pub accepted_alone : (p : Plan) (l : List Amendment) (rows : List (List ℕ)) (before : ℕ) (m : Member) → amended_refusal p l rows ≡ 0 → member_refusal (as_valued p l) rows before m ≡ 0 → lone_refusal p l rows m ≡ 0
unfolding lone_refusal
accepted_alone p l rows before m plan member =
    let line = line_refusal (as_valued p l) rows 0 0 m in
    first_passes (amended_refusal p l rows) (line ∷ []) plan ∙ first_alone line ∙ lone_line (as_valued p l) rows before m member
