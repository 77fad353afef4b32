-- Rule 7.9, what follows from the others: the accrued benefit never falls. So no file is refused for it.
use Rattle.std.specs.Prelude.{List, ℕ, ◌+◌, ◌≤◌, ◌<◌}
use Rattle.rates.specs.Table.{weight}
use Rattle.plan.specs.declared.Plan.{Plan}
use Rattle.plan.specs.declared.Member.{Member}
use Rattle.plan.specs.Benefit.{B}
use Rattle.plan.specs.Ranges.{HeadRanges, InRange}

-- rule 7.9: B(k) ≤ B(k+1), for each age k from y to r − 1
abbrev pub Rising : Plan → List (List ℕ) → Member → Type 0
Rising p rows m = (k : ℕ) → m.entry ≤ k → k < p.retire → B p rows m k ≤ B p rows m (k + 1)

-- all that the law needs of a table, by rule 3.5: each weight is above 0, and none is below that of the age before
pub record Climbing (rows : List (List ℕ)) : Type 0 where
  pub above : (k : ℕ) → 15 ≤ k → k ≤ 120 → 0 < weight rows k
  pub climbs : (k : ℕ) → 15 ≤ k → k < 120 → weight rows k ≤ weight rows (k + 1)

-- by each of the three formulas: under a heading in these ranges, and of the table by its weights alone
abbrev pub NeverFalls : Type 0
NeverFalls =
    (p : Plan) (rows : List (List ℕ)) (m : Member) → HeadRanges p → Climbing rows → InRange p m → Rising p rows m
