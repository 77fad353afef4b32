-- Rule 13.8 of what `write_case` answers. Proved in proofs/Copies.antt.
use Rattle.std.specs.Prelude.{◌≡◌, List, true, ℕ, ◌≤◌}
use Rattle.rules.specs.Outcome.{values, refusal}
use Rattle.walk.specs.Walk.{Case, walk_of}
use Rattle.judging.specs.Refusing.{case_refusal}
use Rattle.written.specs.Statements.{FullTable, most_written}
use Rattle.fitting.specs.Fitting.{fitting}
use Rattle.writer.specs.Files.{file_of}

-- what is written is accepted, and as the very values
abbrev pub WrittenReadsBack : Type 0
WrittenReadsBack = (room : ℕ) (c : Case) (file : List ℕ) → FullTable c.rows → file_of room c ≡ values file → walk_of true file ≡ values c

-- an accepted file is its own clean copy: its values are written as the same bytes, wherever those fit
abbrev pub CleanCopy : Type 0
CleanCopy = (room : ℕ) (file : List ℕ) (c : Case) → walk_of true file ≡ values c → file_of room c ≡ fitting room file

-- rule 13.9: with 48,624 bytes of room, what isn't written is refused by rule 5.7
abbrev pub RoomEnough : Type 0
RoomEnough = (room : ℕ) (c : Case) (number line : ℕ) → FullTable c.rows → most_written ≤ room → file_of room c ≡ refusal number line → (number ≡ case_refusal c) × (line ≡ 0)
