-- Rules 5.1 and 5.2: the answers of reading and of accepting a case file.
use Rattle.std.specs.Prelude.{ℕ, List, true, false, length}
use Rattle.plan.specs.declared.Plan.{Plan}
use Rattle.rules.specs.Outcome.{Outcome, values, refusal}
use Rattle.walk.specs.Walk.{Case, walk_of}
use Rattle.whole_walk.specs.declared.Outline.{Outline}

-- rule 5.1, reading: its answer says nothing of ranges
abbrev pub reading : Outcome Case → Outcome (Unit {0})
reading (values c) = values tt
reading (refusal number line) = refusal number line

unfoldable pub reading_of : List ℕ → Outcome (Unit {0})
reading_of s = reading (walk_of false s)

-- rule 5.2, accepting: the plan with the heading's unit and the counts of amendments and members, beside the arrays that hold them
unfoldable pub accepting_of : List ℕ → Outcome Case
accepting_of s = walk_of true s

abbrev pub accepted : Plan → (k n : ℕ) → Outcome Outline
accepted p k n = values (record { plan = p; amendments = k; members = n })

abbrev pub accepting : Outcome Case → Outcome Outline
accepting (values c) = accepted c.plan (length c.amends) (length c.members)
accepting (refusal number line) = refusal number line
