-- The plan's own figures, RULES section 11: totals, unfunded and supplemental.
use Rattle.std.specs.Prelude.{List, [], ◌∷◌, ℕ, ◌+◌, ℤ, pos, ◌-ℤ◌, ◌*ℤ◌}
use Rattle.rounding.specs.Nearest.{nearest_ℤ}
use Rattle.fractions.specs.Ratio.{Ratio, whole, ◌⊕◌}
use Rattle.factors.specs.Factors.{S, C}
use Rattle.plan.specs.declared.Plan.{Plan}
use Rattle.plan.specs.declared.Member.{Member}
use Rattle.costs.specs.declared.Figures.{Figures}
use Rattle.costs.specs.Valuation.{figures}
use Rattle.totals.specs.declared.Totals.{Totals}

-- an exact fraction of each member, summed over all of them
unfoldable pub total* : (Member → Ratio) → List Member → Ratio
total* exact [] = whole 0
total* exact (m ∷ more) = exact m ⊕ total* exact more

module _ (p : Plan) (rows : List (List ℕ)) where
  -- rule 11.1, a total: a printed figure of each member, summed over all of them
  unfoldable pub total : (Figures → ℕ) → List Member → ℕ
  total figure [] = 0
  total figure (m ∷ more) = figure (figures p rows m) + total figure more

  -- rule 11.1: the totals of V, N and L
  abbrev pub totals : List Member → Totals
  totals members =
      record {
        value = total (λ f. f.value) members;
        cost = total (λ f. f.cost) members;
        liability = total (λ f. f.liability) members;
      }

  -- rule 11.2, unfunded: the liability that the assets leave open, below 0 where they are more
  unfoldable pub unfunded : List Member → ℤ
  unfunded members = pos (totals members).liability -ℤ pos p.assets

  -- rule 11.3, supplemental: the unfunded over the certain annuity of m payments (7.8b)
  unfoldable pub supplemental : List Member → ℤ
  supplemental members = nearest_ℤ (unfunded members *ℤ pos S) (C p.interest p.years)
