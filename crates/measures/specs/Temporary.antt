-- What an engine hands over for a method besides G.
use Rattle.std.specs.Prelude.{ℕ}
use Rattle.factors.specs.Basis.{Basis}
use Rattle.factors.specs.Factors.{T, Z}
use Rattle.plan.specs.declared.Method.{Method}
use Rattle.plan.specs.declared.Method.TheVariants.{AB, BD, BP, CD, CP}

-- rules 9.5 and 9.6, the temporary annuity from age k up to e that a method counts by: T or Z; the others count by none
abbrev pub temporary : Basis → Method → (k e : ℕ) → ℕ
temporary b AB = λ k e. 0
temporary b BD = λ k e. 0
temporary b BP = λ k e. 0
temporary b CD = T b
temporary b CP = Z b
