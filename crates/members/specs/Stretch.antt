-- Rules 4.1, 4.6 and 12.4, what the loop over the members promises: it is the walk from the first line after the rows on.
use Rattle.std.specs.Prelude.{ℕ, ◌+◌, ◌≡◌, List, [], Bool, true, cond, length, eqb, Result, Ok, Err}
use Rattle.plan.specs.declared.Plan.{Plan}
use Rattle.plan.specs.declared.Member.{Member}
use Rattle.rules.specs.declared.refusals.Refusal.TheVariants.{CutOff, BytesAfter, WrongCount, MemberForm, SurplusMember}
use Rattle.rules.specs.declared.refusals.Refused.{Refused}
use Rattle.rules.specs.Refusals.{number}
use Rattle.rules.specs.Outcome.{values, refusal}
use Rattle.walk.specs.Step.{Head, plan_in, people}
use Rattle.walk.specs.Walk.{case_of, walk_from}
use Rattle.tails.specs.declared.Tail.{Tail}
use Rattle.tails.specs.declared.TailFault.{TailFault}
use Rattle.tails.specs.declared.TailFault.TheVariants.{Surplus, Neither, Cut}
use Rattle.members.specs.Array.{array_of}

-- where the ranges are settled, a plan and its rows are those of a head: the plan as it is valued (rule 2.13)
abbrev pub SameHead : (ranges : Bool) → Plan → List (List ℕ) → Head → Type 0
SameHead ranges p rows h = ranges ≡ true → (p ≡ plan_in h) × (rows ≡ h.rows)

-- the members and the end, after a head
pub record MembersDone (ranges : Bool) (h : Head) (first : ℕ) (s : List ℕ) (n : ℕ) (array : List (List ℕ)) : Type 0 where
  pub members : List Member
  pub many : n ≡ length members
  pub held : array ≡ array_of members
  pub way : walk_from ranges first (people h []) s ≡ values (case_of h members)

unfoldable pub MembersAre : (ranges : Bool) → Head → (first : ℕ) → List ℕ → Result ℕ Refused → List (List ℕ) → Type 0
MembersAre ranges h first s (Ok n) array = MembersDone ranges h first s n array
MembersAre ranges h first s (Err refused) array = walk_from ranges first (people h []) s ≡ refusal (number refused.refusal) refused.line

-- rules 4.1, 12.3 and 12.5: a line after the rows, or its refusal: 27, a member too many; 20, no member and no end; 2, the bytes end in it
abbrev pub form_line : Result (Tail × ℕ) TailFault → (line : ℕ) → Result (Tail × ℕ) Refused
form_line (Ok read) line = Ok read
form_line (Err Surplus) line = Err (record { refusal = SurplusMember; line = line })
form_line (Err Neither) line = Err (record { refusal = MemberForm; line = line })
form_line (Err Cut) line = Err (record { refusal = CutOff; line = line })

-- rule 4.6: the end line after `count` members, with so many bytes after it. Refusal 4: it holds another count; refusal 3: bytes after it,
-- at the line after
abbrev pub end_count : (n count line after : ℕ) → Result ℕ Refused
end_count n count line after =
    cond (eqb n count)
    (cond (eqb after 0) (Ok count) (Err (record { refusal = BytesAfter; line = line + 1 })))
    (Err (record { refusal = WrongCount; line = line }))
