-- What the shared engine keeps of a plan between its members.
use Rattle.std.specs.Prelude.{Bool, List, ℕ}
use Rattle.factors.specs.Factors.{G}
use Rattle.year_steps.specs.Filled.{Filled}
use Rattle.columns.specs.Columns.{FilledColumns}
use Rattle.plan.specs.declared.Plan.{Plan}
use Rattle.costs.specs.Valuation.{method_of, plan_basis}
use Rattle.measures.specs.Temporary.{temporary}

-- rule 8.11: G(k) in the place of each age up to r; and of the temporary annuity that the plan's method counts by, a column for each end age
-- that a member has needed
pub record Shared (p : Plan) (rows : List (List ℕ)) (g : List ℕ) (columns : List (List ℕ)) (marks : List Bool) : Type 0 where
  pub deferred : Filled (G (plan_basis p rows)) p.retire 15 g
  pub filled : FilledColumns (temporary (plan_basis p rows) (method_of p.method)) columns marks
