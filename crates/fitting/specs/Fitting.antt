-- The lines that fit, the answer of an entry that writes, and what the buffer holds after it.
use Rattle.std.specs.Prelude.{cond, List, ◌++◌, ℕ, leb, length, drop}
use Rattle.rules.specs.Refusals.{no_room}
use Rattle.rules.specs.Outcome.{Outcome, values, refusal}

-- rule 12.3, refusal 30: the lines need more room than there is
unfoldable pub fitting : (room : ℕ) → List ℕ → Outcome (List ℕ)
fitting room lines = cond (leb (length lines) room) (values lines) (refusal no_room 0)

-- the answer: how many bytes were written, or the refusal's number and line (rule 12.1)
abbrev pub answer : Outcome (List ℕ) → Outcome ℕ
answer (values lines) = values (length lines)
answer (refusal number line) = refusal number line

-- rule 12.2, the buffer after it: the lines and then the old tail; after a refusal the old bytes
abbrev pub buffer : Outcome (List ℕ) → List ℕ → List ℕ
buffer (values lines) old = lines ++ drop (length lines) old
buffer (refusal number line) old = old
