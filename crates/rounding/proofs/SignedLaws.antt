-- A signed quotient is rounded by its size, and keeps its sign unless it becomes zero.
use mathlib.Core.Path.{◌≡◌, refl, sym, ap, ◌∙◌}
use mathlib.Core.Bool.{Bool, true, false, cond}
use Prim.Native.Nat.{ℕ, zero, suc, ◌*◌, ◌<◌}
use native.Mathlib.Nat.{zero-mul}
use native.Mathlib.Omega.{arith}
use lib.IntN.{ℤ, pos, negsuc, neg_ℤ, ◌*ℤ◌}
use Rattle.rounding.specs.declared.Signed.{Signed}
use Rattle.rounding.specs.Nearest.{nearest, nearest_ℤ}
use Rattle.rounding.specs.Signed.{integer_of, signed}
use Rattle.rounding.proofs.NearestLaws.{nearest_negative}

-- n with a sign
abbrev with_sign : Bool → ℕ → ℤ
with_sign negative n = cond negative (neg_ℤ (pos n)) (pos n)

-- a product's size is the product of the sizes
times : (negative : Bool) (n b : ℕ) → with_sign negative n *ℤ pos b ≡ with_sign negative (n * b)
times false n b = refl
times true zero b = rw (zero-mul b)
times true (suc n) b = refl

rounded : (negative : Bool) (n d : ℕ) → 0 < d → nearest_ℤ (with_sign negative n) d ≡ with_sign negative (nearest n d)
unfolding nearest_ℤ
rounded false n d h = refl
rounded true n d h = nearest_negative n d h

-- so the result is the rounded size with the sign
by_size : (a : Signed) (b d : ℕ) → 0 < d → nearest_ℤ (integer_of a *ℤ pos b) d ≡ with_sign a.negative (nearest (a.size * b) d)
unfolding integer_of
by_size a b d h = ap (λ (z : ℤ). nearest_ℤ z d) (times a.negative a.size b) ∙ rounded a.negative (a.size * b) d h

zero_plain : (negative : Bool) → signed (with_sign negative zero) ≡ record { negative = false; size = zero }
unfolding signed
zero_plain true = refl
zero_plain false = refl

other_kept : (negative : Bool) (q : ℕ) → 0 < q → signed (with_sign negative q) ≡ record { negative = negative; size = q }
unfolding signed
other_kept negative zero h = absurd (omega arith)
other_kept true (suc q) h = refl
other_kept false (suc q) h = refl

pub signed_zero : (a : Signed) (b d : ℕ) → 0 < d → nearest (a.size * b) d ≡ 0 → record { negative = false; size = 0 } ≡ signed (nearest_ℤ (integer_of a *ℤ pos b) d)
signed_zero a b d h e = sym (ap signed (by_size a b d h ∙ ap (with_sign a.negative) e) ∙ zero_plain a.negative)

pub signed_other : (a : Signed) (b d q : ℕ) → 0 < d → q ≡ nearest (a.size * b) d → 0 < q → record { negative = a.negative; size = q } ≡ signed (nearest_ℤ (integer_of a *ℤ pos b) d)
signed_other a b d q h e some =
    sym (ap signed (by_size a b d h ∙ ap (with_sign a.negative) (sym e)) ∙ other_kept a.negative q some)

-- the integer of a sign and a size that were made from one is that one
signed_back : (z : ℤ) → integer_of (signed z) ≡ z
unfolding integer_of signed
signed_back (pos n) = refl
signed_back (negsuc n) = refl

size_kept : (negative : Bool) (q : ℕ) → (signed (with_sign negative q)).size ≡ q
unfolding signed
size_kept false q = refl
size_kept true zero = refl
size_kept true (suc q) = refl

module _ (a : Signed) (b d : ℕ) (r : Signed) (h : 0 < d) (e : r ≡ signed (nearest_ℤ (integer_of a *ℤ pos b) d)) where
  -- the result's size is the rounded size
  pub signed_size : r.size ≡ nearest (a.size * b) d
  signed_size =
      ap (λ (s : Signed). s.size) e
      ∙ ap (λ (z : ℤ). (signed z).size) (by_size a b d h)
      ∙ size_kept a.negative (nearest (a.size * b) d)

  -- and its sign is that of a
  pub signed_sign : integer_of r ≡ integer_of (record { negative = a.negative; size = r.size })
  unfolding integer_of
  signed_sign =
      ap integer_of e
      ∙ signed_back (nearest_ℤ (integer_of a *ℤ pos b) d)
      ∙ by_size a b d h
      ∙ ap (with_sign a.negative) (sym signed_size)
