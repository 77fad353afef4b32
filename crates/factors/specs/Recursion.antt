-- The one recursion that every factor of rules 8.4 to 8.8 is: a start at the end, and from there back, year by year.
use Rattle.std.specs.Prelude.{ℕ, zero, suc}

-- what stands at age k, n years before the end: at the end itself `start`, and one year earlier what `year` makes of it
unfoldable pub carried : {F : Type 0} (year : ℕ → F → F) (start : F) (k n : ℕ) → F
carried year start k zero = start
carried year start k (suc n) = year k (carried year start (suc k) n)
