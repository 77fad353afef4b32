-- A case file: its lines, folded by the step.
use Rattle.std.specs.Prelude.{ℕ, ◌+◌, List, [], ◌∷◌, Bool, cond, length, ltb, eqb}
use Rattle.fields.specs.Split.{has_of}
use Rattle.plan.specs.declared.Plan.{Plan}
use Rattle.plan.specs.declared.Amendment.{Amendment}
use Rattle.plan.specs.declared.Member.{Member}
use Rattle.rules.specs.Refusals.{too_large, cut_off, bytes_after}
use Rattle.rules.specs.Outcome.{Outcome, values, refusal, and_then}
use Rattle.plan.specs.Numbers.{plan_from}
use Rattle.amendments.specs.Force.{as_valued}
use Rattle.walk.specs.Step.{Head, State, heading, amending, table, people, ended, step}

-- what the lines of a case file hold: the plan with the heading's unit, its amendments, its rows, and the members
pub record Case : Type 0 where
  pub plan : Plan
  pub amends : List Amendment
  pub rows : List (List ℕ)
  pub members : List Member

-- rule 2.13: the plan as it is valued
abbrev pub valued_plan : Case → Plan
valued_plan c = as_valued c.plan c.amends

-- ---- rule 1.2: each line ends with byte 10
-- the lines, and the bytes after the last byte 10
abbrev pub longer : ℕ → List (List ℕ) → List (List ℕ)
longer b [] = []
longer b (line ∷ lines) = (b ∷ line) ∷ lines

unfoldable pub lines_of : List ℕ → List (List ℕ)
lines_of [] = []
lines_of (b ∷ s) = cond (eqb b 10) ([] ∷ lines_of s) (longer b (lines_of s))

unfoldable pub rest_of : List ℕ → List ℕ
rest_of [] = []
rest_of (b ∷ s) = cond (has_of 10 (b ∷ s)) (rest_of s) (b ∷ s)

-- the line after some, as far as it goes
abbrev pub next_of : (rest : List ℕ) → (lines : List (List ℕ)) → List ℕ
next_of rest [] = rest
next_of rest (line ∷ lines) = line

-- ---- rule 12.4: line by line
-- some lines from line k on, each after those before it, and `rest` after them
unfoldable pub folded : (ranges : Bool) → (rest : List ℕ) → (k : ℕ) → State → (lines : List (List ℕ)) → Outcome State
folded ranges rest k state [] = values state
folded ranges rest k state (line ∷ lines) =
    and_then (step ranges k state line (next_of rest lines)) (λ next. folded ranges rest (k + 1) next lines)

-- what the lines hold, as a case
abbrev pub case_of : Head → (members : List Member) → Case
case_of h members = record { plan = plan_from h.terms; amends = h.amends; rows = h.rows; members = members }

-- rule 12.3: no line is left at line k. Refusal 2: one is due; refusal 3: bytes after the end line, at the line after it
abbrev pub closed : (k : ℕ) → (rest : List ℕ) → State → Outcome Case
closed k rest (heading terms) = refusal cut_off k
closed k rest (amending h) = refusal cut_off k
closed k rest (table h) = refusal cut_off k
closed k rest (people h members) = refusal cut_off k
closed k rest (ended h members) = cond (eqb (length rest) 0) (values (case_of h members)) (refusal bytes_after k)

-- the bytes from line k on
unfoldable pub walk_from : (ranges : Bool) → (k : ℕ) → State → List ℕ → Outcome Case
walk_from ranges k state s =
    and_then (folded ranges (rest_of s) k state (lines_of s)) (closed (k + length (lines_of s)) (rest_of s))

-- the first line is line 1, and a term is due
abbrev pub start : State
start = heading []

-- rule 1.1: 65,536 bytes at most; and then the lines, for their form alone or for their ranges too
unfoldable pub walk_of : (ranges : Bool) → List ℕ → Outcome Case
walk_of ranges s = cond (ltb 65536 (length s)) (refusal too_large 0) (walk_from ranges 1 start s)
