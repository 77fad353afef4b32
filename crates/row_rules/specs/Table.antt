-- The rows of the table and their rules, RULES section 3. Millionths for rates.
use Rattle.std.specs.Prelude.{true, cond, ◌&&◌, List, [], ◌∷◌, ℕ, zero, suc, ◌-◌, get_or, leb, ltb, eqb}
use Rattle.rates.specs.Table.{first_age, row, weight}
use Rattle.row_rules.specs.declared.Row.{Row}
use Rattle.rules.specs.Refusals.{out_of_range, wrong_last_death, wrong_weight}
use Rattle.rules.specs.Rules.{unless, first_among, between}

-- a row: its age, the weight of the age before (0 where there is none), and its four numbers
-- rules 3.2, 3.4 and 3.5: each rate, death at 120, and the weight
unfoldable pub row_rules : (k before : ℕ) → Row → List ℕ
row_rules k before row =
    unless (leb row.death 1000000 && (leb row.withdrawal 1000000 && leb row.disability 1000000)) out_of_range
    ∷ unless (cond (eqb k 120) (eqb row.death 1000000) true) wrong_last_death
    ∷ unless (between 1000 100000 row.weight && leb before row.weight) wrong_weight
    ∷ []

-- rule 3.1: the four numbers of a row
abbrev pub row_numbers : List ℕ → Row
row_numbers row =
    record { death = get_or row 0 0; withdrawal = get_or row 1 0; disability = get_or row 2 0; weight = get_or row 3 0 }

module _ (rows : List (List ℕ)) where
  abbrev pub row_of : ℕ → Row
  row_of k = row_numbers (row rows k)

  abbrev pub weight_before : ℕ → ℕ
  weight_before k = cond (ltb first_age k) (weight rows (k - 1)) 0

  -- the first refusal of the n rows from age k on
  unfoldable pub rows_refusal : ℕ → ℕ → ℕ
  rows_refusal k zero = 0
  rows_refusal k (suc n) = first_among (first_among (row_rules k (weight_before k) (row_of k)) ∷ rows_refusal (suc k) n ∷ [])
