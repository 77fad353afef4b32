-- Which engine works the figures (rule 9.12).
use Rattle.std.specs.Prelude.{Bool, true, false, ℕ, leb}
use Rattle.totals.specs.declared.EngineChoice.{EngineChoice}
use Rattle.totals.specs.declared.EngineChoice.TheVariants.{Plain, Shared, ByCount}

-- the shared one, for so many members: where one is asked for, as asked; else from two members on
abbrev pub shared_for : EngineChoice → ℕ → Bool
shared_for Plain count = false
shared_for Shared count = true
shared_for ByCount count = leb 2 count
