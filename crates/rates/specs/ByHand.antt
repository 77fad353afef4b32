-- A figure worked by hand (RULES section 14) beside what the definitions give, and lists of such figures, to be computed.
use Rattle.std.specs.Prelude.{Bool, true, false, cond, List, [], ◌∷◌, ℕ, eqb}

-- a figure as the definitions give it, and as the rules print it
infix 5 ◌is◌
pub data Figure : Type 0 where
  ◌is◌ : ℕ → ℕ → Figure

-- each figure of the list is as printed
abbrev pub all_are : List Figure → Bool
all_are [] = true
all_are ((worked is printed) ∷ others) = cond (eqb worked printed) (all_are others) false
