-- What a range rule is, and the first refusal of several (rule 12.4).
use Rattle.std.specs.Prelude.{Bool, cond, ◌&&◌, List, [], ◌∷◌, ℕ, leb, eqb}

-- a rule's refusal: none, which is 0, where it is kept, and else its number
abbrev pub unless : Bool → ℕ → ℕ
unless kept number = cond kept 0 number

-- the first refusal of several rules in order; 0 where all are kept
abbrev pub first_among : List ℕ → ℕ
first_among [] = 0
first_among (refusal ∷ later) = cond (eqb refusal 0) (first_among later) refusal

-- lo ≤ n ≤ hi
abbrev pub between : ℕ → ℕ → ℕ → Bool
between lo hi n = leb lo n && leb n hi
