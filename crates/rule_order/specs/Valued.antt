-- Rule 2.13 for what is accepted: the plan as it is valued keeps every rule of a heading, and so all that is proved of a plan without a list is proved of it.
use Rattle.std.specs.Prelude.{◌≡◌, List, [], ℕ}
use Rattle.plan.specs.declared.Plan.{Plan}
use Rattle.plan.specs.declared.Amendment.{Amendment}
use Rattle.amendments.specs.Force.{as_valued}
use Rattle.rule_order.specs.Acceptance.{plan_refusal, amended_refusal}

-- a plan is accepted with its amendments: the plan as it is valued is accepted by itself
abbrev pub ValuedIsAccepted : Type 0
ValuedIsAccepted =
    (p : Plan) (l : List Amendment) (rows : List (List ℕ)) → amended_refusal p l rows ≡ 0 → plan_refusal (as_valued p l) rows ≡ 0

-- and with no amendment the refusal is the plan's own
abbrev pub NoList : Type 0
NoList = (p : Plan) (rows : List (List ℕ)) → amended_refusal p [] rows ≡ plan_refusal p rows
