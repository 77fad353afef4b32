-- The laws of `Apart`: two fractions that differ, either way, by a limit at most.
use mathlib.Core.Path.{◌≡◌}
use Prim.Native.Nat.{ℕ, ◌+◌, ◌*◌, ◌<◌}
use native.Mathlib.Omega.{arith}
use native.Mathlib.Nat.{mul-pos, lt_of_mul-lt-mul_left, mul-add, add-mul, mul_assoc, mul_comm, mul_left_comm}
use Rattle.fractions.specs.Ratio.{Ratio, ◌over◌, whole, ◌⊕◌, ◌⊗◌, Proper, ◌≈◌, ◌≼◌}
use Rattle.fractions.specs.Fraction.{Fraction, fraction, ◌⊖◌, ◌⊙◌, opposite, size, ◌≐◌, Apart}
use Rattle.fractions.proofs.RatioLaws.{⊕-zero, zero-⊕, AC-⊕, whole_proper, ⊕-proper, ⊗-proper}
use Rattle.fractions.proofs.OrderLaws.{◌∙≼◌, ⊕-mono}
use Rattle.fractions.proofs.Difference.{Difference, pos_part, neg_part, of_itself, of_pos, of_neg, of_times, Near, size-≤, ≤-size, near_times, near_cancel}
use Rattle.fractions.proofs.FractionLaws.{≐-of, ≐-sym, cross_sums, ⊖-upper}

-- ---- the same over whole numbers
-- (p − q) / m and (r − s) / n differ by the limit at most
abbrev Sides : Ratio → (m n p q r s : ℕ) → Type 0
Sides l m n p q r s = Near ((p * n + s * m) * l.lower) ((q * n + r * m) * l.lower) (l.upper * (m * n))

sides : {l : Ratio} {a b : Fraction} {p q r s : ℕ} → Difference a.upper p q → Difference b.upper r s
    → Apart l a b → Sides l a.lower b.lower p q r s
unfolding size ◌over◌ ◌⊖◌
sides {l} {a} {b} d e h = ≤-size l.lower (l.upper * (a.lower * b.lower)) (⊖-upper a b d e) (omega arith)

of_sides : {l : Ratio} {a b : Fraction} {p q r s : ℕ} → Difference a.upper p q → Difference b.upper r s
    → Proper l → 0 < a.lower → 0 < b.lower → Sides l a.lower b.lower p q r s → Apart l a b
unfolding size ◌over◌ ◌⊖◌
of_sides {l} {a} {b} d e hl ha hb h = omega (arith, mul-pos ha hb, size-≤ l.lower (⊖-upper a b d e) h)

own_sides : {l : Ratio} {a b : Fraction} → Apart l a b
    → Sides l a.lower b.lower (pos_part a.upper) (neg_part a.upper) (pos_part b.upper) (neg_part b.upper)
own_sides {a} {b} h = sides (of_itself a.upper) (of_itself b.upper) h

-- ---- fractions of any sign
pub apart_sym : {l : Ratio} {a b : Fraction} → Apart l a b → Apart l b a
apart_sym h = of_sides (of_itself _) (of_itself _) h.apart.right h.right h.left (omega (arith, own_sides h))

pub apart_opposite : {l : Ratio} {a b : Fraction} → Apart l a b → Apart l (opposite a) (opposite b)
unfolding opposite
apart_opposite {a} {b} h =
    of_sides (of_neg (of_itself a.upper)) (of_neg (of_itself b.upper)) h.apart.right h.left h.right
    (omega (arith, own_sides h))

pub apart_more : {l m : Ratio} {a b : Fraction} → Apart l a b → l ≼ m → Apart m a b
apart_more h e = record { left = h.left; right = h.right; apart = h.apart ∙≼ e }

-- multiplies out and sorts, where the products are too many for `omega` to do it by itself
ruleset sorted = (mul-add, add-mul, mul_assoc, mul_comm, mul_left_comm)

pub apart-⊙ : {l : Ratio} {a b : Fraction} {c : Ratio} → Proper c → Apart l a b → Apart (l ⊗ c) (a ⊙ c) (b ⊙ c)
unfolding ◌⊙◌ ◌⊗◌
apart-⊙ {a} {b} {c} hc h =
    of_sides (of_times c.upper (of_itself a.upper)) (of_times c.upper (of_itself b.upper))
    (⊗-proper h.apart.right hc) (mul-pos h.left hc.above) (mul-pos h.right hc.above)
    (simp sorted (simp sorted at (near_times (c.upper * (c.lower * c.lower)) (own_sides h))))

-- the limits of two steps add up
pub apart_trans : {l m : Ratio} {a b c : Fraction} → Apart l a b → Apart m b c → Apart (l ⊕ m) a c
unfolding ◌⊕◌
apart_trans {l} {m} {a} {b} {c} g h =
    let first = near_times (c.lower * m.lower) (own_sides g) in
    let second = near_times (a.lower * l.lower) (own_sides h) in
    of_sides (of_itself _) (of_itself _) (⊕-proper g.apart.right h.apart.right) g.left h.right
    (near_cancel g.right (simp sorted (omega (arith, simp sorted at first, simp sorted at second))))

-- ---- equal fractions
apart_zero : {a b : Fraction} → a ≐ b → Apart (whole 0) a b
unfolding whole ◌over◌
apart_zero e = of_sides (of_itself _) (of_itself _) (whole_proper 0) e.left e.right (omega (arith, cross_sums e))

pub apart-≐ : {l : Ratio} {a a' b b' : Fraction} → a ≐ a' → b ≐ b' → Apart l a b → Apart l a' b'
apart-≐ e f h = simp (⊕-zero, zero-⊕) at (apart_trans (apart_zero (≐-sym e)) (apart_trans h (apart_zero f)))

pub apart-≈ : {l a a' b b' : Ratio} → a ≈ a' → b ≈ b' → Apart l (fraction a) (fraction b) → Apart l (fraction a') (fraction b')
apart-≈ e f = apart-≐ (≐-of e) (≐-of f)

-- ---- ratios: neither is above the other by more than the limit
right_proper : (a : Ratio) {b : Ratio} → Proper (a ⊕ b) → Proper b
unfolding ◌⊕◌
right_proper a h = record { above = lt_of_mul-lt-mul_left a.lower (omega arith) }

pub apart_of : {l a b : Ratio} → a ≼ b ⊕ l → b ≼ a ⊕ l → Apart l (fraction a) (fraction b)
unfolding ◌⊕◌ fraction
apart_of {l} {a} {b} g h =
    of_sides (of_pos a.upper) (of_pos b.upper) (right_proper b g.right) g.left.above h.left.above
    (omega arith)

pub apart_below : (a b : Ratio) {l : Ratio} → Apart l (fraction a) (fraction b) → a ≼ b ⊕ l
unfolding ◌⊕◌ fraction
apart_below a b h =
    omega (arith, mul-pos h.right h.apart.right.above, sides (of_pos a.upper) (of_pos b.upper) h)

pub apart_above : (a b : Ratio) {l : Ratio} → Apart l (fraction a) (fraction b) → b ≼ a ⊕ l
apart_above a b h = apart_below b a (apart_sym h)

-- the limits of two parts of a sum add up
pub apart-⊕ : (a b c d : Ratio) {l m : Ratio} → Apart l (fraction a) (fraction b) → Apart m (fraction c) (fraction d)
    → Apart (l ⊕ m) (fraction (a ⊕ c)) (fraction (b ⊕ d))
apart-⊕ a b c d {l} {m} g h =
    let sorted : (x y : Ratio) → x ⊕ l ⊕ (y ⊕ m) ≡ x ⊕ y ⊕ (l ⊕ m) = λ x y. simp AC-⊕ in
    apart_of (rw (sorted b d) at (⊕-mono (apart_below a b g) (apart_below c d h)))
    (rw (sorted a c) at (⊕-mono (apart_above a b g) (apart_above c d h)))
