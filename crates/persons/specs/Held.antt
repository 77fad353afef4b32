-- Rule 7.10: what is held for a person, by a scan of all places.
use Rattle.std.specs.Prelude.{ℕ, ◌+◌, List, [], ◌∷◌, cond, get_or, eqb}

-- a place holds a person and a sum; zeros for nobody
abbrev pub holds_for : (person : ℕ) → (place : List ℕ) → ℕ
holds_for person place = cond (eqb (get_or place 0 0) person) (get_or place 1 0) 0

unfoldable pub held : (places : List (List ℕ)) → (person : ℕ) → ℕ
held [] person = 0
held (place ∷ places) person = holds_for person place + held places person

-- the person and the sum at place j
abbrev pub person_at : (places : List (List ℕ)) → ℕ → ℕ
person_at places j = get_or (get_or places j []) 0 0

abbrev pub sum_at : (places : List (List ℕ)) → ℕ → ℕ
sum_at places j = get_or (get_or places j []) 1 0
