-- What the figures of one member rest on, and what holds of each accepted one, by rules 2.3, 3.5, 4.3, 7.8, 7.9 and 8.2.
use Rattle.std.specs.Prelude.{ℕ, ◌+◌, ◌≤◌, ◌<◌}
use Rattle.factors.specs.Basis.{Basis, Fair}

pub record Setting : Type 0 where
  pub basis : Basis  -- interest, retirement age, how often a pension is paid, staying and weights
  pub B : ℕ → ℕ  -- the accrued benefit at an age, in whole cents
  pub y : ℕ  -- the entry age

pub record SoundSetting (c : Setting) : Type 0 where
  pub fair : Fair c.basis
  pub retires : 50 ≤ c.basis.r
  pub in_time : c.basis.r ≤ 75
  pub grown : 15 ≤ c.y
  pub enters : c.y < c.basis.r
  pub weighty : (k : ℕ) → c.y ≤ k → k < c.basis.r → 1000 ≤ c.basis.W k
  pub climbs : (k : ℕ) → c.y ≤ k → k + 1 < c.basis.r → c.basis.W k ≤ c.basis.W (k + 1)
  pub capped : c.B c.basis.r ≤ 100000000
  pub rises : (k : ℕ) → c.y ≤ k → k < c.basis.r → c.B k ≤ c.B (k + 1)
