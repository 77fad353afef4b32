-- `rounding::mul_mul_div_nearest` meets its contract.
use mathlib.Core.Path.{◌≡◌, ap, ◌∙◌}
use Prim.Native.Nat.{ℕ, ◌*◌, ◌^◌}
use native.Mathlib.Omega.{arith}
use Rattle.division.specs.Words.{value}
use Rattle.rounding.proofs.Room.{two_words}
use Rattle.rounding.proofs.mul_mul_div_nearest.Goals as goal
use Rattle.rounding.proofs.mul_mul_div_nearest.Goals.{After-times}

-- the wide number is the product of the three
whole : (c : After-times) → let a = c.args in value c.times.result ≡ a.a * a.b * a.c
whole c = c.times.ensures ∙ ap (λ (n : ℕ). n * c.args.c) c.product.ensures

pub times-requires : goal.times-requires
times-requires c = let a = c.args in
    rw c.product.ensures (two_words (2 ^ 64) (a.a * a.b * a.c) a.d c.requires.0 (omega arith) c.requires.1)

pub wide_div_nearest-requires : goal.wide_div_nearest-requires
wide_div_nearest-requires c = rw (whole c) c.requires

pub returns : goal.returns
returns c = rw (whole c.before) at c.wide_div_nearest.ensures
