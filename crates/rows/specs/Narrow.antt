-- Rule 3.1, a row as the code keeps it: four numbers, each in 32 bits.
use Rattle.std.specs.Prelude.{ℕ, min}

-- a number too wide for 32 bits is the largest, which no range allows
abbrev pub narrow_of : ℕ → ℕ
narrow_of x = min x 4294967295
