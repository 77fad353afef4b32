-- An answer as the plain numbers that an export gives: 0 stands for no refusal, no line and no bytes.
use Rattle.std.specs.Prelude.{ℕ, List, length}
use Rattle.rules.specs.Outcome.{Outcome, values, refusal}

-- rule 12.1: the refusal's number
abbrev pub number_of : {A : Type 0} → Outcome A → ℕ
number_of (values a) = 0
number_of (refusal number line) = number

-- its line
abbrev pub line_number_of : {A : Type 0} → Outcome A → ℕ
line_number_of (values a) = 0
line_number_of (refusal number line) = line

-- how many bytes were written
abbrev pub written_of : Outcome (List ℕ) → ℕ
written_of (values lines) = length lines
written_of (refusal number line) = 0

-- the same of an answer that has counted them
abbrev pub bytes_of : Outcome ℕ → ℕ
bytes_of (values n) = n
bytes_of (refusal number line) = 0
