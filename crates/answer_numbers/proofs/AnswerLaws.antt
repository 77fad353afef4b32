-- The answers of the entries say the number, the line and the count of bytes of what they are an equation with.
use Prim.Native.Nat.{ℕ}
use mathlib.Core.Path.{◌≡◌, refl, ap, ◌∙◌}
use mathlib.Core.List.{List}
use Rattle.rules.specs.Outcome.{Outcome, values, refusal}
use Rattle.walk.specs.Walk.{Case}
use Rattle.whole_walk.specs.declared.Outline.{Outline}
use Rattle.casefile.specs.Answers.{reading, accepting}
use Rattle.fitting.specs.Fitting.{answer}
use Rattle.answer_numbers.specs.Answers.{number_of, line_number_of, bytes_of, written_of}

-- number and line of what is read, accepted or written
read_number : (o : Outcome Case) → number_of (reading o) ≡ number_of o
read_number (values c) = refl
read_number (refusal number line) = refl

read_line : (o : Outcome Case) → line_number_of (reading o) ≡ line_number_of o
read_line (values c) = refl
read_line (refusal number line) = refl

accepted_number : (o : Outcome Case) → number_of (accepting o) ≡ number_of o
accepted_number (values c) = refl
accepted_number (refusal number line) = refl

accepted_line : (o : Outcome Case) → line_number_of (accepting o) ≡ line_number_of o
accepted_line (values c) = refl
accepted_line (refusal number line) = refl

printed_number : (o : Outcome (List ℕ)) → number_of (answer o) ≡ number_of o
printed_number (values lines) = refl
printed_number (refusal number line) = refl

printed_line : (o : Outcome (List ℕ)) → line_number_of (answer o) ≡ line_number_of o
printed_line (values lines) = refl
printed_line (refusal number line) = refl

printed_bytes : (o : Outcome (List ℕ)) → bytes_of (answer o) ≡ written_of o
printed_bytes (values lines) = refl
printed_bytes (refusal number line) = refl

-- what a refusal tells: its number and its line
pub refusal_told : {A : Type 0} {o : Outcome A} {number line : ℕ} → refusal number line ≡ o → (number ≡ number_of o) × (line ≡ line_number_of o)
refusal_told e = (ap number_of e, ap line_number_of e)

-- from an answer that is told
pub told_reading : {r : Outcome (Unit {0})} (o : Outcome Case) {n l : ℕ} → r ≡ reading o → n ≡ number_of r → l ≡ line_number_of r → (n ≡ number_of o) × (l ≡ line_number_of o)
told_reading o e n l = (n ∙ ap number_of e ∙ read_number o, l ∙ ap line_number_of e ∙ read_line o)

pub told_accepting : {r : Outcome Outline} (o : Outcome Case) {n l : ℕ} → r ≡ accepting o → n ≡ number_of r → l ≡ line_number_of r → (n ≡ number_of o) × (l ≡ line_number_of o)
told_accepting o e n l = (n ∙ ap number_of e ∙ accepted_number o, l ∙ ap line_number_of e ∙ accepted_line o)

pub told_written : {r : Outcome ℕ} (o : Outcome (List ℕ)) {n l w : ℕ} → r ≡ answer o → n ≡ number_of r → l ≡ line_number_of r → w ≡ bytes_of r → (n ≡ number_of o) × (l ≡ line_number_of o) × (w ≡ written_of o)
told_written o e n l w =
    (n ∙ ap number_of e ∙ printed_number o, l ∙ ap line_number_of e ∙ printed_line o, w ∙ ap bytes_of e ∙ printed_bytes o)
