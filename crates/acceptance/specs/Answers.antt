-- What accepting plain values answers.
use Rattle.std.specs.Prelude.{ℕ}
use Rattle.rules.specs.Outcome.{Outcome, values, passing}

-- rule 5.3, a refusal number as an answer: the line of plain values is 0
unfoldable pub acceptance_of : ℕ → Outcome (Unit {0})
acceptance_of number = passing number 0 (values tt)
