-- The answers for a case file: that of `value_case`, and what the program prints.
use Rattle.std.specs.Prelude.{cond, List, ℕ, leb, length}
use Rattle.rules.specs.Outcome.{Outcome, values, refusal, and_then}
use Rattle.walk.specs.Walk.{valued_plan}
use Rattle.casefile.specs.Answers.{accepting_of}
use Rattle.report.specs.Lines.{printed, refusal_line}
use Rattle.fitting.specs.Fitting.{fitting}

-- rule 12.4, a case file: its first refusal, 30 after all others; else the lines, of the plan as it is valued
unfoldable pub valued_of : (room : ℕ) → List ℕ → Outcome (List ℕ)
valued_of room case = and_then (accepting_of case) (λ c. fitting room (printed (valued_plan c) c.rows c.members))

-- rule 13.1, what the program prints: the lines, or the one line of the refusal; where even that is longer than the buffer, it stays that refusal
abbrev pub or_refusal : (room : ℕ) → Outcome (List ℕ) → Outcome (List ℕ)
or_refusal room (values lines) = values lines
or_refusal room (refusal number line) =
    cond (leb (length (refusal_line number line)) room) (values (refusal_line number line)) (refusal number line)

unfoldable pub program_of : (room : ℕ) → List ℕ → Outcome (List ℕ)
program_of room case = or_refusal room (valued_of room case)
