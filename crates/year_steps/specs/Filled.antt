-- What an array of factors holds: rule 8.9, a place for each of the 106 ages.
use Rattle.std.specs.Prelude.{◌≡◌, List, ℕ, ◌+◌, ◌-◌, ◌*◌, ◌≤◌, ◌<◌, length, get_or}
use Rattle.rates.specs.Table.{first_age, ages}
use Rattle.year_steps.specs.declared.Amount.{Amount}
use Rattle.year_steps.specs.declared.Amount.TheVariants.{Nothing, One, Weight}
use Rattle.factors.specs.Recursion.{carried}
use Rattle.factors.specs.Basis.{Basis}
use Rattle.factors.specs.Factors.{S, step}

-- the place of each age from `low` on holds its factor F(k), up to the age `top`; above that it holds 0
pub record Filled (F : ℕ → ℕ) (top low : ℕ) (a : List ℕ) : Type 0 where
  pub size : length a ≡ ages
  pub upto : (k : ℕ) → low ≤ k → k ≤ top → get_or a (k - first_age) 0 ≡ F k
  pub above : (k : ℕ) → top < k → k ≤ 120 → get_or a (k - first_age) 0 ≡ 0

-- what is paid each year (rules 8.4 to 8.7): nothing for G, S for A and T, W(k) × S for Z
unfoldable pub paid_of : (weight : ℕ) → Amount → ℕ
paid_of weight Nothing = 0
paid_of weight One = S
paid_of weight Weight = weight * S

-- the factor at age k that ends at the age `top` with `start`: A, G, T and Z are cases of it
unfoldable pub factor : Basis → Amount → ℕ → ℕ → ℕ → ℕ
factor b amount top start k = carried (λ j f. paid_of (b.W j) amount + step b j f) start k (top - k)
