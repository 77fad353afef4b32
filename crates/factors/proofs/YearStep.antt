-- Facts about the year step, for any rate p, any divisor d and any amount. A, G, T, Z and C cite them.
use Prim.Native.Nat.{ℕ, suc, ◌+◌, ◌*◌, ◌≤◌, ◌<◌}
use native.Mathlib.Nat.{mul-pos, mul_assoc, mul_comm, mul_left_comm, mul-add, add-mul, mul-le-mul_left, mul-le-mul_right}
use native.Mathlib.Omega.{arith}
use Rattle.rounding.specs.Nearest.{nearest}
use Rattle.rounding.proofs.NearestLaws.{nearest_below, nearest_above, nearest_mono, nearest_shrinks}
use Rattle.fractions.specs.Ratio.{Ratio, ◌over◌, whole, ◌⊕◌, ◌⊗◌, Proper, ◌≼◌}
use Rattle.factors.proofs.Distance.{Halves, Part}

-- multiplies out and sorts products
ruleset sorted = (mul-add, add-mul, mul_assoc, mul_comm, mul_left_comm)

-- it is monotone
pub step_mono : (f g p d : ℕ) → 0 < d → f ≤ g → nearest (f * p) d ≤ nearest (g * p) d
step_mono f g p d hd h = nearest_mono (f * p) (g * p) d hd (mul-le-mul_right p h)

-- it never makes an amount grow
pub step_shrinks : (f p d : ℕ) → 0 < d → p ≤ d → nearest (f * p) d ≤ f
step_shrinks = nearest_shrinks

pub exact_step_shrinks : (a : Ratio) (p d : ℕ) → 0 < d → p ≤ d → Proper a → a ⊗ p over d ≼ a
unfolding ◌⊗◌ ◌over◌
exact_step_shrinks a p d hd hp h = omega (arith, mul-pos h.above hd, mul-le-mul_left (a.upper * a.lower) hp)

-- it adds at most one half to an error
pub step_halves : (n f : ℕ) (a : Ratio) (p d : ℕ) → 0 < d → p ≤ d → Halves n f a → Halves (suc n) (nearest (f * p) d) (a ⊗ p over d)
unfolding ◌⊗◌ ◌over◌
step_halves n f a p d hd hp w =
    let less = mul-le-mul_left (n * a.lower) hp in
    record {
      below = simp sorted (omega (arith, simp sorted at less, simp sorted at (mul-le-mul_left a.lower (nearest_below (f * p) d)), simp sorted at (mul-le-mul_left p w.below)));
      above = simp sorted (omega (arith, simp sorted at less, simp sorted at (mul-le-mul_left a.lower (nearest_above (f * p) d hd)), simp sorted at (mul-le-mul_left p w.above)));
    }

-- it keeps an error at one part in 2 s, where an amount of s or more is added to the step's result
pub step_part : (s f : ℕ) (a : Ratio) (p d m : ℕ) → 0 < d → s ≤ m → Part s f a → Part s (m + nearest (f * p) d) (whole m ⊕ a ⊗ p over d)
unfolding whole ◌over◌ ◌⊕◌ ◌⊗◌
step_part s f a p d m hd hm w =
    let more = mul-le-mul_left (a.lower * d) hm in
    record {
      below = simp sorted (omega (arith, simp sorted at more, simp sorted at (mul-le-mul_left (s * a.lower) (nearest_below (f * p) d)), simp sorted at (mul-le-mul_left p w.below)));
      above = simp sorted (omega (arith, simp sorted at more, simp sorted at (mul-le-mul_left (s * a.lower) (nearest_above (f * p) d hd)), simp sorted at (mul-le-mul_left p w.above)));
    }
