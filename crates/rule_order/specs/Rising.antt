-- Rule 7.9 for what is accepted.
use Rattle.std.specs.Prelude.{◌≡◌, List, ℕ}
use Rattle.plan.specs.declared.Plan.{Plan}
use Rattle.plan.specs.declared.Member.{Member}
use Rattle.plan.specs.Ranges.{InRange}
use Rattle.plan.specs.Rising.{Rising}
use Rattle.rule_order.specs.Acceptance.{plan_refusal}

-- of every accepted plan, and every member that rules 4.3 to 4.5 keep, the benefit never falls
abbrev pub AcceptedNeverFalls : Type 0
AcceptedNeverFalls =
    (p : Plan) (rows : List (List ℕ)) (m : Member) → plan_refusal p rows ≡ 0 → InRange p m → Rising p rows m
