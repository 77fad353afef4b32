-- Rule 6.1 as its sentence says it, without a quotient or a remainder, and that `nearest` is the one number of which it holds.
use Rattle.std.specs.Prelude.{◌≡◌, ℕ, ◌+◌, ◌*◌, ◌%◌, ◌≤◌, ◌<◌}
use Rattle.rounding.specs.Nearest.{nearest}

-- rule 6.1: q is above n / d by a half at most, and below it by a half at most, and where it is just a half above or below it is even
pub record Rounded (n d q : ℕ) : Type 0 where
  pub above : 2 * (q * d) ≤ 2 * n + d
  pub below : 2 * n ≤ 2 * (q * d) + d
  pub half_above : 2 * (q * d) ≡ 2 * n + d → q % 2 ≡ 0
  pub half_below : 2 * n ≡ 2 * (q * d) + d → q % 2 ≡ 0

pub record HalfEven : Type 0 where
  pub is : (n d : ℕ) → 0 < d → Rounded n d (nearest n d)
  pub only : (n d q : ℕ) → 0 < d → Rounded n d q → q ≡ nearest n d
