-- Rule 12.4, what the parts promise together: the walk from the table on, and the whole walk.
use Rattle.std.specs.Prelude.{ℕ, ◌≡◌, List, Bool, true, length, Result, Ok, Err}
use Rattle.plan.specs.declared.Member.{Member}
use Rattle.plan.specs.Numbers.{plan_from}
use Rattle.amendments.specs.Force.{amendments_from}
use Rattle.amendments.specs.Judging.{amendments_refusal}
use Rattle.rules.specs.declared.refusals.Refused.{Refused}
use Rattle.rules.specs.Refusals.{number}
use Rattle.rules.specs.Outcome.{Outcome, values, refusal}
use Rattle.walk.specs.Step.{Head, table}
use Rattle.walk.specs.Walk.{Case, case_of, walk_from}
use Rattle.stretches.specs.Heads.{tabled}
use Rattle.amend_lines.specs.Array.{list_array}
use Rattle.members.specs.Array.{array_of}
use Rattle.whole_walk.specs.declared.Outline.{Outline}

-- the amendments of a list, which are accepted where the ranges are settled
abbrev pub ListKept : (ranges : Bool) → (terms : List ℕ) → (list : List (List ℕ)) → Type 0
ListKept ranges terms list = ranges ≡ true → amendments_refusal (plan_from terms) (amendments_from list) ≡ 0

-- from the table on, after the terms and the amendments
pub record TableDone (ranges : Bool) (h : Head) (first : ℕ) (s : List ℕ) (n : ℕ) (array members : List (List ℕ)) : Type 0 where
  pub rows : List (List ℕ)
  pub listed : List Member
  pub way : walk_from ranges first (table h) s ≡ values (case_of (tabled h.terms h.amends rows) listed)
  pub many : n ≡ length listed
  pub table : ranges ≡ true → array ≡ rows
  pub held : members ≡ array_of listed

unfoldable pub TableIs : (ranges : Bool) → Head → (first : ℕ) → List ℕ → Result ℕ Refused → (rows members : List (List ℕ)) → Type 0
TableIs ranges h first s (Ok n) rows members = TableDone ranges h first s n rows members
TableIs ranges h first s (Err refused) rows members = walk_from ranges first (table h) s ≡ refusal (number refused.refusal) refused.line

-- the whole walk
pub record WalkDone (ranges : Bool) (o : Outcome Case) (outline : Outline) (amendments rows members : List (List ℕ)) : Type 0 where
  pub case : Case
  pub way : o ≡ values case
  pub plan : outline.plan ≡ case.plan
  pub listed : outline.amendments ≡ length case.amends
  pub list : amendments ≡ list_array case.amends
  pub many : outline.members ≡ length case.members
  pub table : ranges ≡ true → rows ≡ case.rows
  pub held : members ≡ array_of case.members

unfoldable pub WalkIs : (ranges : Bool) → Outcome Case → Result Outline Refused → (amendments rows members : List (List ℕ)) → Type 0
WalkIs ranges o (Ok outline) amendments rows members = WalkDone ranges o outline amendments rows members
WalkIs ranges o (Err refused) amendments rows members = o ≡ refusal (number refused.refusal) refused.line
