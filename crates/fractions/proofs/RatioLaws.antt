-- The laws of sums and products of ratios that hold part by part (`≡`), and which ratios are fractions, or above 0.
use mathlib.Core.Path.{◌≡◌}
use Prim.Native.Nat.{ℕ, ◌+◌, ◌*◌, ◌<◌}
use native.Mathlib.Omega.{arith}
use native.Mathlib.Nat.{mul-pos}
use Rattle.fractions.specs.Ratio.{Ratio, ◌over◌, whole, ◌⊕◌, ◌⊝◌, ◌⊗◌, inverse, ◌⊘◌, Proper, Positive}

by_parts : {a b : Ratio} → (a.upper ≡ b.upper) × (a.lower ≡ b.lower) → a ≡ b
by_parts p = λ i. record { upper = p.0 i; lower = p.1 i }

-- ---- sums
pub ⊕-assoc : (a b c : Ratio) → a ⊕ b ⊕ c ≡ a ⊕ (b ⊕ c)
unfolding ◌⊕◌
⊕-assoc a b c = by_parts (omega arith)

pub ⊕-comm : (a b : Ratio) → a ⊕ b ≡ b ⊕ a
unfolding ◌⊕◌
⊕-comm a b = by_parts (omega arith)

pub ⊕_left_comm : (a b c : Ratio) → a ⊕ (b ⊕ c) ≡ b ⊕ (a ⊕ c)
unfolding ◌⊕◌
⊕_left_comm a b c = by_parts (omega arith)

pub ⊕-zero : (a : Ratio) → a ⊕ whole 0 ≡ a
unfolding ◌⊕◌ whole ◌over◌
⊕-zero a = by_parts (omega arith)

pub zero-⊕ : (a : Ratio) → whole 0 ⊕ a ≡ a
unfolding ◌⊕◌ whole ◌over◌
zero-⊕ a = by_parts (omega arith)

pub whole-⊕ : (m n : ℕ) → whole m ⊕ whole n ≡ whole (m + n)
unfolding ◌⊕◌ whole ◌over◌
whole-⊕ m n = by_parts (omega arith)

-- ---- products
pub ⊗-assoc : (a b c : Ratio) → a ⊗ b ⊗ c ≡ a ⊗ (b ⊗ c)
unfolding ◌⊗◌
⊗-assoc a b c = by_parts (omega arith)

pub ⊗-comm : (a b : Ratio) → a ⊗ b ≡ b ⊗ a
unfolding ◌⊗◌
⊗-comm a b = by_parts (omega arith)

pub ⊗_left_comm : (a b c : Ratio) → a ⊗ (b ⊗ c) ≡ b ⊗ (a ⊗ c)
unfolding ◌⊗◌
⊗_left_comm a b c = by_parts (omega arith)

pub ⊗-one : (a : Ratio) → a ⊗ whole 1 ≡ a
unfolding ◌⊗◌ whole ◌over◌
⊗-one a = by_parts (omega arith)

pub one-⊗ : (a : Ratio) → whole 1 ⊗ a ≡ a
unfolding ◌⊗◌ whole ◌over◌
one-⊗ a = by_parts (omega arith)

pub whole-⊗ : (m n : ℕ) → whole m ⊗ whole n ≡ whole (m * n)
unfolding ◌⊗◌ whole ◌over◌
whole-⊗ m n = by_parts (omega arith)

pub whole-⊘ : (m n : ℕ) → whole m ⊘ whole n ≡ m over n
unfolding ◌⊗◌ inverse whole ◌over◌
whole-⊘ m n = by_parts (omega arith)

-- `simp Ac` sorts products, and so proves two products of the same factors equal; `simp AC-⊕` does it for sums
pub ruleset Ac = (⊗-assoc, ⊗-comm, ⊗_left_comm)

pub ruleset AC-⊕ = (⊕-assoc, ⊕-comm, ⊕_left_comm)

-- ---- fractions
pub over_proper : (n : ℕ) {d : ℕ} → 0 < d → Proper (n over d)
unfolding ◌over◌
over_proper n h = omega arith

pub whole_proper : (n : ℕ) → Proper (whole n)
unfolding whole ◌over◌
whole_proper n = omega arith

pub ⊕-proper : {a b : Ratio} → Proper a → Proper b → Proper (a ⊕ b)
unfolding ◌⊕◌
⊕-proper ha hb = omega (arith, mul-pos ha.above hb.above)

pub ⊝-proper : {a b : Ratio} → Proper a → Proper b → Proper (a ⊝ b)
unfolding ◌⊝◌
⊝-proper ha hb = omega (arith, mul-pos ha.above hb.above)

pub ⊗-proper : {a b : Ratio} → Proper a → Proper b → Proper (a ⊗ b)
unfolding ◌⊗◌
⊗-proper ha hb = omega (arith, mul-pos ha.above hb.above)

pub inverse_proper : {a : Ratio} → Positive a → Proper (inverse a)
unfolding inverse
inverse_proper ha = omega arith

-- ---- ratios above 0
pub over_positive : {n : ℕ} (d : ℕ) → 0 < n → Positive (n over d)
unfolding ◌over◌
over_positive d h = omega arith

pub whole_positive : {n : ℕ} → 0 < n → Positive (whole n)
unfolding whole ◌over◌
whole_positive h = omega arith

pub ⊕-positive : {a b : Ratio} → Positive a → Proper b → Positive (a ⊕ b)
unfolding ◌⊕◌
⊕-positive ha hb = omega (arith, mul-pos ha.above hb.above)

pub ⊗-positive : {a b : Ratio} → Positive a → Positive b → Positive (a ⊗ b)
unfolding ◌⊗◌
⊗-positive ha hb = omega (arith, mul-pos ha.above hb.above)

pub inverse_positive : {a : Ratio} → Proper a → Positive (inverse a)
unfolding inverse
inverse_positive ha = omega arith

-- `search proper` proves that what is built of fractions is one, and of ratios above 0 that it is above 0
pub ruleset proper = (over_proper, whole_proper, ⊕-proper, ⊝-proper, ⊗-proper, inverse_proper, over_positive, whole_positive, ⊕-positive, ⊗-positive, inverse_positive)
