-- The laws of fractions of any sign: `≐`, what one part leaves of a sum, and signs and sizes through the operations.
use mathlib.Core.Path.{◌≡◌, refl, sym, ap}
use Prim.Native.Nat.{ℕ, ◌+◌, ◌*◌}
use native.Mathlib.Omega.{arith}
use native.Mathlib.Nat.{mul-pos}
use lib.IntN.{ℤ, pos, neg_ℤ, ◌*ℤ◌}
use Rattle.fractions.specs.Ratio.{Ratio, ◌over◌, whole, ◌⊕◌, ◌⊗◌, Proper, ◌≈◌}
use Rattle.fractions.specs.Fraction.{Fraction, fraction, integer, ◌⊖◌, ◌⊙◌, opposite, ◌≐◌}
use Rattle.fractions.proofs.Difference.{Difference, pos_part, neg_part, of_itself, of_pos, of_neg, of_less, of_times, equal, sums_equal}

-- ---- equal fractions
pub ≐-of : {a b : Ratio} → a ≈ b → fraction a ≐ fraction b
unfolding fraction
≐-of e = record { left = e.left.above; right = e.right.above; cross = ap pos (omega arith) }

pub ≐-sym : {a b : Fraction} → a ≐ b → b ≐ a
≐-sym e = record { left = e.right; right = e.left; cross = sym e.cross }

-- the equal cross products, over whole numbers
pub cross_sums : {a b : Fraction} → a ≐ b
    → pos_part a.upper * b.lower + neg_part b.upper * a.lower
    ≡ pos_part b.upper * a.lower + neg_part a.upper * b.lower
cross_sums {a} {b} e =
    sums_equal (of_times b.lower (of_itself a.upper)) (of_times a.lower (of_itself b.upper)) e.cross

-- ---- differences
-- the upper part of a − b, where those of a and b are p − q and r − s
pub ⊖-upper : (a b : Fraction) {p q r s : ℕ} → Difference a.upper p q → Difference b.upper r s
    → Difference (a ⊖ b).upper (p * b.lower + s * a.lower) (q * b.lower + r * a.lower)
unfolding ◌⊖◌
⊖-upper a b d e = of_less (of_times b.lower d) (of_times a.lower e)

-- what one part leaves of a sum
pub ≐-less : {a b s : Ratio} → Proper a → Proper b → a ⊕ b ≈ s → fraction a ≐ fraction s ⊖ fraction b
unfolding ◌⊕◌ ◌⊖◌ fraction
≐-less {a} {b} {s} ha hb e =
    record {
      left = ha.above;
      right = mul-pos e.right.above hb.above;
      cross =
          equal (of_pos (a.upper * (s.lower * b.lower)))
          (of_times a.lower (⊖-upper (fraction s) (fraction b) (of_pos s.upper) (of_pos b.upper)))
          (omega arith);
    }

-- ---- signs and sizes
pub integer_pos : (n : ℕ) → integer (pos n) ≡ fraction (whole n)
unfolding integer fraction whole ◌over◌
integer_pos n = refl

pub fraction-⊙ : (a b : Ratio) → fraction a ⊙ b ≡ fraction (a ⊗ b)
unfolding fraction ◌⊙◌ ◌⊗◌
fraction-⊙ a b = refl

pub opposite_integer : (z : ℤ) → opposite (integer z) ≡ integer (neg_ℤ z)
unfolding opposite integer
opposite_integer z = refl

neg_ℤ_times : (z : ℤ) (n : ℕ) → neg_ℤ z *ℤ pos n ≡ neg_ℤ (z *ℤ pos n)
neg_ℤ_times z n =
    let d = of_itself z in
    equal (of_times n (of_neg d)) (of_neg (of_times n d)) (omega arith)

pub opposite-⊙ : (a : Fraction) (b : Ratio) → opposite a ⊙ b ≡ opposite (a ⊙ b)
unfolding opposite ◌⊙◌
opposite-⊙ a b = rw neg_ℤ_times
