-- What a division's two results are, stated as a pair: rule 6.4.
use Rattle.std.specs.Prelude.{◌≡◌, ℕ, ◌+◌, ◌*◌, ◌^◌, ◌<◌, ◌≤◌}
use Rattle.division.specs.declared.Division.{Division}
use Rattle.division.specs.declared.Taken.{Taken}
use Rattle.division.specs.Words.{value}

-- rule 6.4, s divides n by d: d as often as the quotient says, and the remainder, make up n, and the remainder is less than d
pub record DivisionOf (n d : ℕ) (s : Division) : Type 0 where
  pub same : s.quotient * d + s.remainder ≡ n
  pub less : s.remainder < d

-- n / d fits a word
unfoldable pub Short : ℕ → ℕ → Type 0
Short n d = n < 2 ^ 64 * d

-- v times d is below 2^64, and lacks at most d to it
pub record Reciprocal (d v : ℕ) : Type 0 where
  pub below : v * d < 2 ^ 64
  pub near : 2 ^ 64 ≤ v * d + d

-- the number that is divided, from what was taken and what is left
unfoldable pub undivided : ℕ → Taken → ℕ
undivided d t = t.quotient * d + value t.left

-- a step changes nothing in that, and leaves less where two words were left
pub record Step (d : ℕ) (t r : Taken) : Type 0 where
  pub same : undivided d r ≡ undivided d t
  pub less : 0 < t.left.high → value r.left < value t.left
