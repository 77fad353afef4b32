-- The sums over the array of figures.
use Rattle.std.specs.Prelude.{List, ℕ, zero, suc, ◌+◌}
use Rattle.costs.specs.declared.Figures.{Figures}
use Rattle.all_figures.specs.Worked.{figures_in}
use Rattle.totals.specs.declared.Totals.{Totals}

-- rule 11.1: a figure of the first n, summed; and the sums of V, N and L
unfoldable pub sum_in : (Figures → ℕ) → (worked : List (List ℕ)) → ℕ → ℕ
sum_in figure worked zero = 0
sum_in figure worked (suc n) = sum_in figure worked n + figure (figures_in worked n)

abbrev pub sums_in : (worked : List (List ℕ)) → ℕ → Totals
sums_in worked n =
    record {
      value = sum_in (λ f. f.value) worked n;
      cost = sum_in (λ f. f.cost) worked n;
      liability = sum_in (λ f. f.liability) worked n;
    }
