-- Rules 2.11, 2.13 and 12.4, what the loop over the amendments promises: it is the stretch of the walk from the line after the terms on.
use Rattle.std.specs.Prelude.{ℕ, ◌+◌, ◌≤◌, ◌≡◌, List, [], ◌∷◌, ◌++◌, Bool, true, cond, length, drop, leb, eqb, Result, Ok, Err}
use Rattle.plan.specs.declared.Plan.{Plan}
use Rattle.plan.specs.declared.Amendment.{Amendment}
use Rattle.rules.specs.declared.refusals.Refused.{Refused}
use Rattle.rules.specs.Refusals.{wrong_amendment, number}
use Rattle.rules.specs.Rules.{first_among}
use Rattle.plan.specs.Numbers.{plan_from}
use Rattle.amendments.specs.Judging.{most_amendments, field_refusal, amendment_refusal, unit_refusal, amendments_refusal}
use Rattle.rules.specs.Outcome.{refusal}
use Rattle.walk.specs.Settled.{settled}
use Rattle.walk.specs.Step.{headed, amending, table}
use Rattle.walk.specs.Walk.{walk_from}
use Rattle.stretches.specs.declared.Next.{Next}
use Rattle.stretches.specs.Heads.{amended}
use Rattle.amend_lines.specs.Array.{list_array}

-- ---- one line: what is refused of an amendment whose form is right, after those before it; `more` says whether one more follows
-- a twenty-first: 53, unless a field is refused before that
abbrev pub surplus_of : (ranges : Bool) → Amendment → ℕ
surplus_of ranges a =
    cond (eqb (settled ranges (field_refusal a)) 0) wrong_amendment (settled ranges (field_refusal a))

abbrev pub refusal_of : (ranges : Bool) → Plan → (before : List Amendment) → Amendment → (more : Bool) → ℕ
refusal_of ranges p before a more =
    cond (leb most_amendments (length before)) (surplus_of ranges a)
    (settled ranges (first_among (amendment_refusal before a ∷ cond more 0 (unit_refusal p (before ++ a ∷ [])) ∷ [])))

-- ---- all lines: `amends` are those of the lines, and the array holds just them; where the ranges are settled they are accepted
pub record AmendsDone (ranges : Bool) (p : Plan) (first : ℕ) (s : List ℕ) (line at : ℕ) (array : List (List ℕ)) : Type 0 where
  pub amends : List Amendment
  pub few : length amends ≤ most_amendments
  pub held : array ≡ list_array amends
  pub kept : ranges ≡ true → amendments_refusal p amends ≡ 0
  pub place : line ≡ first + length amends
  pub within : at ≤ length s
  pub way : (terms : List ℕ) → p ≡ plan_from terms → walk_from ranges first (amending (headed terms)) s ≡ walk_from ranges line (table (amended terms amends)) (drop at s)

unfoldable pub AmendsAre : (ranges : Bool) → Plan → (first : ℕ) → List ℕ → Result Next Refused → List (List ℕ) → Type 0
AmendsAre ranges p first s (Ok next) array = AmendsDone ranges p first s next.line next.at array
AmendsAre ranges p first s (Err refused) array =
    (terms : List ℕ) → p ≡ plan_from terms → walk_from ranges first (amending (headed terms)) s ≡ refusal (number refused.refusal) refused.line
