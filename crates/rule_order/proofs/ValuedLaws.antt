-- The plan as it is valued, of a plan that is accepted with its amendments.
use mathlib.Core.Path.{◌≡◌, refl}
use mathlib.Core.List.{List, [], ◌∷◌}
use Prim.Native.Nat.{ℕ, ◌≤◌}
use borrow.Author.Tests.{leb-true, le-leb}
use lib.Dec.{leb}
use Rattle.plan.specs.declared.Plan.{Plan}
use Rattle.plan.specs.declared.Amendment.{Amendment}
use Rattle.plan.specs.declared.Member.{Member}
use Rattle.plan.specs.Ranges.{MemberRanges}
use Rattle.rules.specs.Rules.{first_among}
use Rattle.rules.specs.Heading.{unit_most, head_rules}
use Rattle.row_rules.specs.Table.{rows_refusal}
use Rattle.rules.proofs.RuleLaws.{all_kept, kept_all, kept}
use Rattle.amendments.specs.Force.{unit_valued, as_valued}
use Rattle.amendments.specs.Judging.{unit_refusal, each_refusal, amendments_refusal}
use Rattle.amendments.proofs.Keeping.{valued_low}
use Rattle.rule_order.specs.Acceptance.{plan_refusal, amended_refusal, line_refusal, lone_refusal}
use Rattle.rule_order.specs.Valued.{ValuedIsAccepted, NoList}
use Rattle.rule_order.proofs.Facts.{member_facts, line_kept}

-- a plan that is accepted with its amendments: its heading, its list and its rows
pub amended_kept : (p : Plan) (l : List Amendment) (rows : List (List ℕ)) → amended_refusal p l rows ≡ 0 → (first_among (head_rules p) ≡ 0) × (amendments_refusal p l ≡ 0) × (rows_refusal rows 15 106 ≡ 0)
unfolding amended_refusal
amended_kept p l rows e =
    let k = all_kept (first_among (head_rules p) ∷ amendments_refusal p l ∷ rows_refusal rows 15 106 ∷ []) e in
    (k.0, k.1.0, k.1.1.0)

pub kept_amended : (p : Plan) (l : List Amendment) (rows : List (List ℕ)) → first_among (head_rules p) ≡ 0 → amendments_refusal p l ≡ 0 → rows_refusal rows 15 106 ≡ 0 → amended_refusal p l rows ≡ 0
unfolding amended_refusal
kept_amended p l rows head list table =
    kept_all (first_among (head_rules p) ∷ amendments_refusal p l ∷ rows_refusal rows 15 106 ∷ []) (head, (list, (table, tt)))

-- the heading with the unit valued: of its rules the unit's alone is another one
head_valued : (p : Plan) (l : List Amendment) → first_among (head_rules p) ≡ 0 → amendments_refusal p l ≡ 0 → first_among (head_rules (as_valued p l)) ≡ 0
unfolding head_rules
head_valued p l e list =
    let k = all_kept (head_rules p) e in
    let unit : p.unit ≤ unit_most p.formula = leb-true _ _ (kept (leb p.unit (unit_most p.formula)) 10 k.1.1.1.1.0) in
    kept_all (head_rules (as_valued p l)) (k.0, (k.1.0, (k.1.1.0, (k.1.1.1.0, (simp (le-leb (unit_valued p l) (unit_most p.formula) (valued_low p l list unit)), k.1.1.1.1.1)))))

pub valued_is_accepted : ValuedIsAccepted
unfolding plan_refusal
valued_is_accepted p l rows e =
    let k = amended_kept p l rows e in
    kept_all (first_among (head_rules (as_valued p l)) ∷ rows_refusal rows 15 106 ∷ []) (head_valued p l k.0 k.1, (k.2, tt))

pub no_list : NoList
unfolding plan_refusal amended_refusal amendments_refusal each_refusal unit_refusal
no_list p rows = refl

-- a lone member, after its plan with the amendments
pub lone_list : (p : Plan) (l : List Amendment) (rows : List (List ℕ)) (m : Member) → lone_refusal p l rows m ≡ 0 → amendments_refusal p l ≡ 0
unfolding lone_refusal
lone_list p l rows m e =
    (amended_kept p l rows (all_kept (amended_refusal p l rows ∷ line_refusal (as_valued p l) rows 0 _ m ∷ []) e).0).1

pub lone_facts : (p : Plan) (l : List Amendment) (rows : List (List ℕ)) (m : Member) → lone_refusal p l rows m ≡ 0 → MemberRanges (as_valued p l) rows m
unfolding lone_refusal
lone_facts p l rows m e =
    let both = all_kept (amended_refusal p l rows ∷ line_refusal (as_valued p l) rows 0 _ m ∷ []) e in
    member_facts (as_valued p l) rows 0 m (valued_is_accepted p l rows both.0) ((line_kept (as_valued p l) rows 0 _ m).0 both.1.0).0
