-- An array that a part fills from place 0 on: it is lent, and the answer has none.
use Rattle.std.specs.Prelude.{ℕ, List, replicate}
use Rattle.std.proofs.lemmas.List.Edits.{sets}

-- so many places, of which the first hold some rows of numbers, and the others `none`
unfoldable pub filled : (places : ℕ) → (none : List ℕ) → (rows : List (List ℕ)) → List (List ℕ)
filled places none rows = sets (replicate places none) 0 rows
