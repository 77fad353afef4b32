-- Which rules count: reading is for the form alone.
use Rattle.std.specs.Prelude.{ℕ, Bool, cond}

-- rules 5.1 and 5.2: a range rule counts where the ranges are settled
abbrev pub settled : (ranges : Bool) → ℕ → ℕ
settled ranges number = cond ranges number 0
