-- Rule 12.4, how a part answers of a line: what was read of it, or its refusal with the line.
use Rattle.std.specs.Prelude.{ℕ, Result, Ok, Err}
use Rattle.fields.specs.declared.Fault.{Fault}
use Rattle.fields.specs.declared.Fault.TheVariants.{Wrong, Cut}
use Rattle.rules.specs.declared.refusals.Refusal.{Refusal}
use Rattle.rules.specs.declared.refusals.Refusal.TheVariants.{PlanForm, CutOff}
use Rattle.rules.specs.declared.refusals.Refused.{Refused}

-- a refusal, at a line
abbrev pub at_line : {A : Type 0} → Result A Refusal → ℕ → Result A Refused
at_line (Ok a) line = Ok a
at_line (Err refusal) line = Err (record { refusal = refusal; line = line })

-- a line of the plan's part, of a wrong form or cut off
abbrev pub plan_line : {A : Type 0} → Result A Fault → ℕ → Result A Refused
plan_line (Ok a) line = Ok a
plan_line (Err Wrong) line = Err (record { refusal = PlanForm; line = line })
plan_line (Err Cut) line = Err (record { refusal = CutOff; line = line })
