-- Rules 13.8 and 13.9: reading and writing undo each other. `walk_of false` reads a file for its form, `walk_of true` accepts it.
use Rattle.std.specs.Prelude.{◌≡◌, List, [], Bool, true, ◌↔◌, ℕ, ◌≤◌, ◌<◌, length, get_or}
use Rattle.rates.specs.Table.{ages}
use Rattle.rules.specs.Outcome.{values}
use Rattle.walk.specs.Walk.{Case, walk_of}
use Rattle.walk.specs.Kept.{AcceptedCase}
use Rattle.written.specs.Written.{written}
use Rattle.judging.specs.Refusing.{case_refusal}

-- rule 3.1: a row for each age, and four numbers in each, as plain values have them by their type
pub record FullTable (rows : List (List ℕ)) : Type 0 where
  pub all_ages : length rows ≡ ages
  pub fours : (j : ℕ) → j < length rows → length (get_or rows j []) ≡ 4

-- ---- written, then read
-- every case that keeps the rules: its written file is accepted, and as that case
abbrev pub WrittenIsAccepted : Type 0
WrittenIsAccepted = (c : Case) → FullTable c.rows → AcceptedCase c → walk_of true (written c) ≡ values c

-- any case: its written file is read or accepted as no other
abbrev pub WrittenIsNoOther : Type 0
WrittenIsNoOther = (ranges : Bool) (c d : Case) → FullTable c.rows → walk_of ranges (written c) ≡ values d → d ≡ c

-- ---- read, then written
-- any bytes that are read or accepted as a case are its written file, byte for byte
abbrev pub ReadIsWritten : Type 0
ReadIsWritten = (ranges : Bool) (s : List ℕ) (c : Case) → walk_of ranges s ≡ values c → (s ≡ written c) × FullTable c.rows

-- ---- plain values
-- plain values are acceptable exactly when their written file is accepted
abbrev pub AcceptableExactly : Type 0
AcceptableExactly = (c : Case) → FullTable c.rows → (case_refusal c ≡ 0) ↔ ((d : Case) × (walk_of true (written c) ≡ values d))

-- ---- the length
-- rule 13.9: the longest written file
abbrev pub most_written : ℕ
most_written = 48624

abbrev pub WrittenMost : Type 0
WrittenMost = (c : Case) → AcceptedCase c → length (written c) ≤ most_written

-- and there is such a file: some case keeps every rule, and its written file has as many bytes
abbrev pub MostIsReached : Type 0
MostIsReached = (c : Case) × (FullTable c.rows × (AcceptedCase c × (length (written c) ≡ most_written)))
