-- How far u × S / C, rounded, strays from its exact fraction: half a cent for the rounding, and a two-billionth of u's size for C.
use mathlib.Core.Path.{◌≡◌, ap, ◌∙◌}
use Prim.Native.Nat.{ℕ, suc, ◌*◌, ◌<◌}
use native.Mathlib.Nat.{mul-one, mul-le-mul_left}
use native.Mathlib.Omega.{arith}
use lib.IntN.{ℤ, pos, negsuc, neg_ℤ, nat_abs, ◌*ℤ◌}
use Rattle.rounding.specs.Nearest.{nearest, nearest_ℤ}
use Rattle.rounding.proofs.NearestLaws.{nearest_negative}
use Rattle.fractions.specs.Ratio.{◌over◌, whole, ◌⊕◌, ◌⊗◌, ◌⊘◌, ◌≼◌}
use Rattle.fractions.specs.Fraction.{fraction, integer, ◌⊙◌, opposite, Apart}
use Rattle.fractions.proofs.RatioLaws.{⊗-assoc, whole-⊗, over_proper}
use Rattle.fractions.proofs.FractionLaws.{integer_pos, fraction-⊙, opposite_integer, opposite-⊙}
use Rattle.fractions.proofs.ApartLaws.{apart_opposite, apart_trans}
use Rattle.factors.specs.Factors.{S, C, C*}
use Rattle.factors.proofs.Sizes.{C_least, C*_positive, C*_proper}
use Rattle.factors.proofs.Accuracy.{C_accuracy}
use Rattle.costs.proofs.Quotients.{Divisor, rounded, over_divisor}

negative_whole : (n : ℕ) → integer (neg_ℤ (pos n)) ≡ opposite (fraction (whole n))
negative_whole n = rw (← opposite_integer, integer_pos)

module _ (i m : ℕ) (some : 0 < m) where
  certain : Divisor (1 over (2 * S)) (C i m) (C* i m)
  certain =
      record {
        above = omega (arith, C_least i m some);
        above* = C*_positive i m some;
        proper* = C*_proper i m;
        part = over_proper 1 (omega arith);
        near = C_accuracy i m;
      }

  -- n × S / C is n at most, since C pays S at once
  paid_at_once : (n : ℕ) → (n * S) over C i m ≼ whole n
  unfolding ◌over◌ whole
  paid_at_once n = omega (arith, C_least i m some, mul-le-mul_left n (C_least i m some))

  part_of : (n : ℕ) → whole n ⊗ 1 over (2 * S) ≡ n over 2000000000
  unfolding ◌over◌ whole ◌⊗◌
  part_of n = rw mul-one

  -- what is above 0
  by_size : (n : ℕ) → Apart (1 over 2 ⊕ n over 2000000000) (fraction (whole (nearest (n * S) (C i m)))) (fraction (whole n ⊗ (whole S ⊘ C* i m)))
  by_size n =
      rw (← part_of n, ← ⊗-assoc, whole-⊗)
      (apart_trans (rounded (n * S) (C i m) certain.above) (over_divisor (n * S) certain (paid_at_once n)).near)

  -- and of any sign
  pub payment_close : (z : ℤ) → Apart (1 over 2 ⊕ nat_abs z over 2000000000) (integer (nearest_ℤ (z *ℤ pos S) (C i m))) (integer z ⊙ (whole S ⊘ C* i m))
  unfolding nearest_ℤ
  payment_close (pos n) = simp (integer_pos, fraction-⊙) (by_size n)
  payment_close (negsuc n) =
      let paid : integer (nearest_ℤ (negsuc n *ℤ pos S) (C i m)) ≡ opposite (fraction (whole (nearest (suc n * S) (C i m)))) =
      ap integer (nearest_negative (suc n * S) (C i m) certain.above) ∙ negative_whole _ in
      let exact : integer (negsuc n) ⊙ (whole S ⊘ C* i m) ≡ opposite (fraction (whole (suc n) ⊗ (whole S ⊘ C* i m))) =
      rw (negative_whole (suc n), opposite-⊙, fraction-⊙) in
      rw (paid, exact) (apart_opposite (by_size (suc n)))
