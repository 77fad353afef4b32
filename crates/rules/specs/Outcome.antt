-- What comes of judging, reading or valuing, as rule 12.4 wants it: what is given, or the first refusal's number and its line.
use Rattle.std.specs.Prelude.{ℕ, cond, eqb}
use Rattle.std.specs.declared.result.Result.{Result}
use Rattle.std.specs.declared.result.Result.TheVariants.{Ok, Err}
use Rattle.rules.specs.declared.refusals.Refused.{Refused}
use Rattle.rules.specs.Refusals.{number}

-- what is given; or the refusal that comes first, by number and line
pub data Outcome (A : Type 0) : Type 0 where
  values : A → Outcome A
  refusal : (number line : ℕ) → Outcome A

-- rule 12.4: what follows is due only where nothing was refused
abbrev pub and_then : {A B : Type 0} → Outcome A → (A → Outcome B) → Outcome B
and_then (values a) more = more a
and_then (refusal number line) more = refusal number line

-- a line that a rule refuses ends the walk; 0 is no refusal
abbrev pub passing : {A : Type 0} → (number line : ℕ) → Outcome A → Outcome A
passing number line more = cond (eqb number 0) more (refusal number line)

-- what the code's answer says, in these words
abbrev pub outcome : {A : Type 0} → Result A Refused → Outcome A
outcome (Ok a) = values a
outcome (Err refused) = refusal (number refused.refusal) refused.line
