-- Rules 5.5 and 7.10: refusal 29 is for a person on several lines, since 25 comes before it.
use Rattle.std.specs.Prelude.{◌≡◌, List, [], ◌∷◌, ℕ}
use Rattle.plan.specs.declared.Plan.{Plan}
use Rattle.plan.specs.declared.Amendment.{Amendment}
use Rattle.plan.specs.declared.Member.{Member}
use Rattle.rules.specs.Refusals.{high_sum}
use Rattle.rule_order.specs.Acceptance.{member_refusal, person_sum, line_refusal, lone_refusal}

-- none of some members is the person
abbrev pub Absent : (person : ℕ) → List Member → Type 0
Absent person [] = Unit {0}
Absent person (m ∷ l) = (m.person ≡ person → ⊥) × Absent person l

-- at a person's first line its own rules say all
abbrev pub FirstLineByItsOwn : Type 0
FirstLineByItsOwn =
    (p : Plan) (rows : List (List ℕ)) (before : ℕ) (l : List Member) (m : Member) → Absent m.person l
    → line_refusal p rows before (person_sum p rows m.person l) m ≡ member_refusal p rows before m

-- and whatever the numbers of a lone member are, its answer isn't 29
abbrev pub LoneNever29 : Type 0
LoneNever29 =
    (p : Plan) (l : List Amendment) (rows : List (List ℕ)) (m : Member) → lone_refusal p l rows m ≡ high_sum → ⊥
