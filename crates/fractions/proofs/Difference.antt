-- An integer as a difference of two whole numbers: it turns what is asked of integers into what `omega` reads.
use mathlib.Core.Path.{◌≡◌, refl, ap}
use mathlib.Core.Bool.{Bool, true, false, not, cond}
use Prim.Native.Nat.{ℕ, zero, suc, ◌+◌, ◌*◌, ◌-◌, ◌≤◌, ◌<◌}
use native.Mathlib.Omega.{arith}
use native.Mathlib.Nat.{mul-le-mul_right, le_of_mul-le-mul_right}
use lib.Dec.{T as Yes, ltb, ltb→lt, nltb→le}
use lib.IntN.{ℤ, pos, negsuc, neg_ℤ, nat_abs, sub_ℕ, ◌+ℤ◌, ◌*ℤ◌, ◌-ℤ◌}

-- z is its positive part less its negative part, and one of them is 0
unfoldable pub pos_part : ℤ → ℕ
pos_part (pos n) = n
pos_part (negsuc n) = 0

unfoldable pub neg_part : ℤ → ℕ
neg_part (pos n) = 0
neg_part (negsuc n) = suc n

-- z is p − q
pub record Difference (z : ℤ) (p q : ℕ) : Type 0 where
  pub sums : pos_part z + q ≡ p + neg_part z

pub of_itself : (z : ℤ) → Difference z (pos_part z) (neg_part z)
of_itself z = record { sums = refl }

pub of_pos : (n : ℕ) → Difference (pos n) n 0
unfolding pos_part neg_part
of_pos n = record { sums = refl }

pub of_neg : {z : ℤ} {p q : ℕ} → Difference z p q → Difference (neg_ℤ z) q p
unfolding pos_part neg_part
of_neg {z = pos zero} d = omega arith
of_neg {z = pos (suc n)} d = omega arith
of_neg {z = negsuc n} d = omega arith

of_subℕ : (a b : ℕ) → Difference (sub_ℕ a b) a b
unfolding pos_part neg_part
of_subℕ a b = go (ltb a b) (ltb→lt a b) (nltb→le a b)
  where
    go : (t : Bool) → (Yes t → a < b) → (Yes (not t) → b ≤ a) → Difference (cond t (negsuc (b - suc a)) (pos (a - b))) a b
    go true f g = let h : a < b = f tt in omega arith
    go false f g = let h : b ≤ a = g tt in omega arith

-- one integer, as another difference
again : {z : ℤ} {p q r s : ℕ} → Difference z p q → p + s ≡ r + q → Difference z r s
again d e = omega arith

of_sum : {z w : ℤ} {p q r s : ℕ} → Difference z p q → Difference w r s → Difference (z +ℤ w) (p + r) (q + s)
unfolding pos_part neg_part
of_sum {z = pos a} {w = pos b} d e = omega arith
of_sum {z = pos a} {w = negsuc b} d e = again (of_subℕ a (suc b)) (omega arith)
of_sum {z = negsuc a} {w = pos b} d e = again (of_subℕ b (suc a)) (omega arith)
of_sum {z = negsuc a} {w = negsuc b} d e = omega arith

pub of_less : {z w : ℤ} {p q r s : ℕ} → Difference z p q → Difference w r s → Difference (z -ℤ w) (p + s) (q + r)
of_less d e = of_sum d (of_neg e)

sums_times : {z : ℤ} {p q : ℕ} (n : ℕ) → Difference z p q → pos_part z * n + q * n ≡ p * n + neg_part z * n
sums_times n d = omega (arith, ap (λ (m : ℕ). m * n) d.sums)

pub of_times : {z : ℤ} {p q : ℕ} (n : ℕ) → Difference z p q → Difference (z *ℤ pos n) (p * n) (q * n)
unfolding pos_part neg_part
of_times {z = pos a} n d = again (of_pos (a * n)) (omega (arith, sums_times n d))
of_times {z = negsuc a} n d = again (of_neg (of_pos (suc a * n))) (omega (arith, sums_times n d))

-- ---- equal integers
pub equal : {z w : ℤ} {p q r s : ℕ} → Difference z p q → Difference w r s → p + s ≡ r + q → z ≡ w
unfolding pos_part neg_part
equal {z = pos a} {w = pos b} d e h = ap pos (omega arith)
equal {z = pos a} {w = negsuc b} d e h = absurd (omega arith)
equal {z = negsuc a} {w = pos b} d e h = absurd (omega arith)
equal {z = negsuc a} {w = negsuc b} d e h = ap negsuc (omega arith)

pub sums_equal : {z w : ℤ} {p q r s : ℕ} → Difference z p q → Difference w r s → z ≡ w → p + s ≡ r + q
sums_equal d e h = omega (arith, rw h at d.sums)

-- ---- sizes
-- |p − q| ≤ k
pub record Near (p q k : ℕ) : Type 0 where
  pub below : p ≤ q + k
  pub above : q ≤ p + k

pub size-≤ : {z : ℤ} {p q : ℕ} (m : ℕ) {k : ℕ} → Difference z p q → Near (p * m) (q * m) k → nat_abs z * m ≤ k
unfolding pos_part neg_part
size-≤ {z = pos a} m d h = omega (arith, sums_times m d)
size-≤ {z = negsuc a} m d h = omega (arith, sums_times m d)

pub ≤-size : {z : ℤ} {p q : ℕ} (m k : ℕ) → Difference z p q → nat_abs z * m ≤ k → Near (p * m) (q * m) k
unfolding pos_part neg_part
≤-size {z = pos a} m k d h = omega (arith, sums_times m d)
≤-size {z = negsuc a} m k d h = omega (arith, sums_times m d)

pub near_times : {p q k : ℕ} (c : ℕ) → Near p q k → Near (p * c) (q * c) (k * c)
near_times c h = omega (arith, mul-le-mul_right c h.below, mul-le-mul_right c h.above)

pub near_cancel : {p q k c : ℕ} → 0 < c → Near (p * c) (q * c) (k * c) → Near p q k
near_cancel {c} hc h =
    record {
      below = le_of_mul-le-mul_right {k = c} (omega arith) hc;
      above = le_of_mul-le-mul_right {k = c} (omega arith) hc;
    }
