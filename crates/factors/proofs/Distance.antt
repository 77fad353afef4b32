-- How far a whole number lies from a fraction, as two inequalities over whole numbers: the form in which errors are carried back year by year.
use mathlib.Core.Path.{◌≡◌, subst}
use Prim.Native.Nat.{ℕ, ◌+◌, ◌-◌, ◌*◌, ◌≤◌, ◌<◌}
use native.Mathlib.Nat.{mul-le-mul_right, mul-le-mul_left}
use native.Mathlib.Omega.{arith}
use Rattle.fractions.specs.Ratio.{Ratio, ◌over◌, whole, ◌⊕◌, ◌⊝◌, ◌⊗◌, Proper, ◌≼◌}
use Rattle.fractions.specs.Fraction.{fraction, Apart}
use Rattle.fractions.proofs.RatioLaws.{whole_proper, over_proper, ⊕-proper, ⊗-proper}
use Rattle.fractions.proofs.ApartLaws.{apart_of}

-- f lies within n halves of a
pub record Halves (n f : ℕ) (a : Ratio) : Type 0 where
  pub below : 2 * (f * a.lower) ≤ 2 * a.upper + n * a.lower
  pub above : 2 * a.upper ≤ 2 * (f * a.lower) + n * a.lower

-- f lies within one part in 2 s of a
pub record Part (s f : ℕ) (a : Ratio) : Type 0 where
  pub below : 2 * (s * (f * a.lower)) ≤ 2 * (s * a.upper) + a.upper
  pub above : 2 * (s * a.upper) ≤ 2 * (s * (f * a.lower)) + a.upper

pub halves_more : (m : ℕ) {n f : ℕ} {a : Ratio} → n ≤ m → Halves n f a → Halves m f a
halves_more m {n} {f} {a} h w = omega (arith, mul-le-mul_right a.lower h)

-- a whole number more on both sides
pub halves_plus : (m : ℕ) {n f : ℕ} {a : Ratio} → Halves n f a → Halves n (m + f) (whole m ⊕ a)
unfolding whole ◌over◌ ◌⊕◌
halves_plus m w = omega arith

-- a difference strays by what both stray
left_halves : {n m g c : ℕ} {a d : Ratio} → Halves n (c + g) a → Halves m c d → d ≼ a → Halves (n + m) g (a ⊝ d)
unfolding ◌⊝◌
left_halves {n} {m} {g} {c} {a} {d} w z le =
    let rest : a.upper * d.lower - d.upper * a.lower + d.upper * a.lower ≡ a.upper * d.lower = omega arith in
    record {
      below = omega (arith, mul-le-mul_left d.lower w.below, mul-le-mul_left a.lower z.above);
      above = omega (arith, mul-le-mul_left d.lower w.above, mul-le-mul_left a.lower z.below);
    }

pub halves_less : {n m f c : ℕ} {a d : Ratio} → Halves n f a → Halves m c d → c ≤ f → d ≼ a → Halves (n + m) (f - c) (a ⊝ d)
halves_less {n} {f = f} {c = c} {a = a} w z h le =
    let whole_is : f ≡ c + (f - c) = omega arith in
    left_halves (subst (λ (f : ℕ). Halves n f a) whole_is w) z le

-- ---- in the words of the statements
part_proper : (s : ℕ) {a : Ratio} → 0 < s → Proper a → Proper (a ⊗ 1 over (2 * s))
part_proper s hs h = ⊗-proper h (over_proper 1 (omega arith))

part_over : (s : ℕ) {f : ℕ} {a : Ratio} → 0 < s → Proper a → Part s f a → whole f ≼ a ⊕ a ⊗ 1 over (2 * s)
unfolding whole ◌over◌ ◌⊕◌ ◌⊗◌
part_over s {f} {a} hs h w = omega (arith, ⊕-proper h (part_proper s hs h), mul-le-mul_left a.lower w.below)

part_under : (s : ℕ) {f : ℕ} {a : Ratio} → 0 < s → Proper a → Part s f a → a ≼ whole f ⊕ a ⊗ 1 over (2 * s)
unfolding whole ◌over◌ ◌⊕◌ ◌⊗◌
part_under s {f} {a} hs h w =
    omega (arith, ⊕-proper (whole_proper f) (part_proper s hs h), mul-le-mul_left a.lower w.above)

pub halves_apart : {n f : ℕ} {a : Ratio} → Proper a → Halves n f a → Apart (n over 2) (fraction (whole f)) (fraction a)
unfolding whole ◌over◌ ◌⊕◌
halves_apart {n} {f} {a} h w = apart_of (omega arith) (omega arith)

pub part_apart : (s : ℕ) {f : ℕ} {a : Ratio} → 0 < s → Proper a → Part s f a → Apart (a ⊗ 1 over (2 * s)) (fraction (whole f)) (fraction a)
part_apart s {f} {a} hs h w = apart_of (part_over s hs h w) (part_under s hs h w)
