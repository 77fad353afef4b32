-- A line of values: a key, whole numbers with a comma after each, and a last value up to the line's end (rules 2.1, 3.1, 4.1 and 4.6).
use Rattle.std.specs.Prelude.{ℕ, zero, suc, ◌+◌, List, [], ◌∷◌, Bool, cond, length, drop, Option, Some, None, Result, Ok, Err}
use Rattle.fields.specs.declared.numbers.Field.{Field}
use Rattle.fields.specs.declared.Fault.{Fault}
use Rattle.fields.specs.declared.Fault.TheVariants.{Wrong, Cut}
use Rattle.fields.specs.Split.{seek_of, has_of, upto_of, past_of, starts_of}
use Rattle.fields.specs.Numbers.{Number, value, malformed, whole_of, amount_of}

-- the values of a line, or none where its form is wrong
pub data Values : Type 0 where
  found : List ℕ → Values
  misread : Values

-- a number and the values after it
abbrev pub before : Number → Values → Values
before (value v) (found vs) = found (v ∷ vs)
before (value v) misread = misread
before malformed vs = misread

-- n whole numbers, each with a comma after it, and the last value
unfoldable pub values_of : (last : List ℕ → Number) → (n : ℕ) → List ℕ → Values
values_of last zero s = before (last s) (found [])
values_of last (suc n) s = cond (has_of 44 s) (before (whole_of (upto_of 44 s)) (values_of last n (past_of 44 s))) misread

-- the same after a key
unfoldable pub keyed_of : (key : List ℕ) → (last : List ℕ → Number) → (n : ℕ) → List ℕ → Values
keyed_of key last n s = cond (starts_of key s) (values_of last n (drop (length key) s)) misread

-- rules 1.3 and 1.4: the last value is a whole number or an amount
abbrev pub last_of : (amount : Bool) → List ℕ → Number
last_of amount s = cond amount (amount_of s) (whole_of s)

-- ---- what the code answers
-- the number from place i up to the first byte b, and the place of that byte
abbrev pub placed : Number → ℕ → Option Field
placed (value v) e = Some (record { value = v; end = e })
placed malformed e = None

unfoldable pub field_of : (form : List ℕ → Number) → (b i : ℕ) → List ℕ → Option Field
field_of form b i s = cond (has_of b (drop i s)) (placed (form (upto_of b (drop i s))) (i + seek_of b (drop i s))) None

-- the values from place i up to the first byte 10, and the place of that byte
abbrev pub ended : Values → ℕ → Option (List ℕ × ℕ)
ended (found vs) e = Some (vs, e)
ended misread e = None

unfoldable pub values_at : (last : List ℕ → Number) → (n i : ℕ) → List ℕ → Option (List ℕ × ℕ)
values_at last n i s = cond (has_of 10 (drop i s)) (ended (values_of last n (upto_of 10 (drop i s))) (i + seek_of 10 (drop i s))) None

-- the line that s begins with: its values, and the place of its byte 10; or its form is wrong, or it is cut off before one (rule 1.2)
abbrev pub formed : Values → ℕ → Result (List ℕ × ℕ) Fault
formed (found vs) e = Ok (vs, e)
formed misread e = Err Wrong

unfoldable pub line_of : (holds : List ℕ → Values) → List ℕ → Result (List ℕ × ℕ) Fault
line_of holds s = cond (has_of 10 s) (formed (holds (upto_of 10 s)) (seek_of 10 s)) (Err Cut)
