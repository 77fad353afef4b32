-- Rules 2.1 and 12.4, what the loop over the terms promises: it is the stretch of the walk from line 1 on.
use Rattle.std.specs.Prelude.{ℕ, ◌+◌, ◌≤◌, ◌≡◌, List, Bool, true, length, drop, Result, Ok, Err}
use Rattle.rules.specs.declared.refusals.Refused.{Refused}
use Rattle.rules.specs.Refusals.{number}
use Rattle.rules.specs.Outcome.{refusal}
use Rattle.walk.specs.Terms.{term_forms, term_refusal}
use Rattle.walk.specs.Step.{headed, amending}
use Rattle.walk.specs.Walk.{start, walk_from}
use Rattle.walk.specs.Kept.{Each}
use Rattle.stretches.specs.declared.Next.{Next}

-- as many terms as there are lines of them, which keep their rules where the ranges are settled
pub record HeadKept (ranges : Bool) (terms : List ℕ) : Type 0 where
  pub size : length terms ≡ length term_forms
  pub kept : ranges ≡ true → Each term_refusal terms

pub record HeadDone (ranges : Bool) (s : List ℕ) (line at : ℕ) (terms : List ℕ) : Type 0 where
  pub good : HeadKept ranges terms
  pub place : line ≡ length term_forms + 1
  pub within : at ≤ length s
  pub way : walk_from ranges 1 start s ≡ walk_from ranges line (amending (headed terms)) (drop at s)

unfoldable pub HeadIs : (ranges : Bool) → List ℕ → Result Next Refused → (terms : List ℕ) → Type 0
HeadIs ranges s (Ok next) terms = HeadDone ranges s next.line next.at terms
HeadIs ranges s (Err refused) terms = walk_from ranges 1 start s ≡ refusal (number refused.refusal) refused.line
