-- Rules 3.1 and 12.4, what the loop over the rows promises: it is the stretch of the walk from a line of the table on, whatever the terms
-- before it.
use Rattle.std.specs.Prelude.{ℕ, ◌+◌, ◌≤◌, ◌≡◌, List, [], Bool, true, length, drop, Result, Ok, Err}
use Rattle.plan.specs.declared.Amendment.{Amendment}
use Rattle.rules.specs.declared.refusals.Refused.{Refused}
use Rattle.rules.specs.Refusals.{number}
use Rattle.rules.specs.Outcome.{refusal}
use Rattle.rates.specs.Table.{ages}
use Rattle.walk.specs.Lines.{row_refusal}
use Rattle.walk.specs.Step.{table, people}
use Rattle.walk.specs.Walk.{walk_from}
use Rattle.walk.specs.Kept.{Each}
use Rattle.stretches.specs.declared.Next.{Next}
use Rattle.stretches.specs.Heads.{amended, tabled}

-- `rows` are those of the lines, as wide as they stand there; where the ranges are settled the array holds just them
pub record RowsDone (ranges : Bool) (first : ℕ) (s : List ℕ) (line at : ℕ) (array : List (List ℕ)) : Type 0 where
  pub rows : List (List ℕ)
  pub size : length rows ≡ ages
  pub kept : ranges ≡ true → Each row_refusal rows
  pub exact : ranges ≡ true → array ≡ rows
  pub place : line ≡ first + ages
  pub within : at ≤ length s
  pub way : (terms : List ℕ) (amends : List Amendment) → walk_from ranges first (table (amended terms amends)) s ≡ walk_from ranges line (people (tabled terms amends rows) []) (drop at s)

unfoldable pub RowsAre : (ranges : Bool) → (first : ℕ) → List ℕ → Result Next Refused → List (List ℕ) → Type 0
RowsAre ranges first s (Ok next) array = RowsDone ranges first s next.line next.at array
RowsAre ranges first s (Err refused) array =
    (terms : List ℕ) (amends : List Amendment) → walk_from ranges first (table (amended terms amends)) s ≡ refusal (number refused.refusal) refused.line
