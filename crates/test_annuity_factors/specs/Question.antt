-- What the program tests of a question before it asks for the factors.
use Rattle.std.specs.Prelude.{List, ℕ, ◌≤◌}
use Rattle.rates.specs.Table.{Table}

-- all that the annuity functions require
pub record Question (rows : List (List ℕ)) (i r e m : ℕ) : Type 0 where
  pub table : Table rows
  pub interest : i ≤ 2000
  pub retire_least : 15 ≤ r
  pub retire_most : r ≤ 120
  pub end_least : 15 ≤ e
  pub end_most : e ≤ 120
  pub payments : m ≤ 40
