-- A rounded product f × x / t, and how far it strays from its exact a × x* / t*, where f is near a and the share x / t is near x* / t*.
use mathlib.Core.Path.{◌≡◌}
use Prim.Native.Nat.{ℕ, ◌*◌, ◌≤◌, ◌<◌}
use native.Mathlib.Omega.{arith}
use Rattle.rounding.specs.Nearest.{nearest}
use Rattle.rounding.proofs.NearestLaws.{nearest_below, nearest_above}
use Rattle.fractions.specs.Ratio.{Ratio, ◌over◌, whole, ◌⊕◌, ◌⊗◌, ◌⊘◌, Proper, Positive, ◌≈◌, ◌≼◌}
use Rattle.fractions.specs.Fraction.{fraction, Apart}
use Rattle.fractions.proofs.RatioLaws.{⊗-assoc, ⊗-comm, one-⊗, whole-⊗, whole-⊘, whole_proper, over_proper, whole_positive, inverse_proper, Ac, proper}
use Rattle.fractions.proofs.EqualLaws.{cancel}
use Rattle.fractions.proofs.OrderLaws.{≼_refl, ≼-of, ≼-⊕, ◌∙≼◌, ⊗-mono}
use Rattle.fractions.proofs.FractionLaws.{fraction-⊙}
use Rattle.fractions.proofs.ApartLaws.{apart_of, apart_sym, apart_more, apart-⊙, apart_trans, apart-≈}
use Rattle.factors.proofs.Distance.{halves_apart}

-- two ratios differ, either way, by the limit at most
abbrev pub Close : (limit a b : Ratio) → Type 0
Close limit a b = Apart limit (fraction a) (fraction b)

pub close_refl : {l a : Ratio} → Proper l → Proper a → Close l a a
close_refl hl ha = apart_of (≼-⊕ ha hl) (≼-⊕ ha hl)

close-⊗ : (a b : Ratio) {l c : Ratio} → Proper c → Close l a b → Close (l ⊗ c) (a ⊗ c) (b ⊗ c)
close-⊗ a b h near = simp fraction-⊙ at (apart-⊙ h near)

-- a rounded quotient
pub rounded : (n d : ℕ) → 0 < d → Close (1 over 2) (whole (nearest n d)) (n over d)
unfolding ◌over◌
rounded n d h = halves_apart (over_proper n h) (omega (arith, nearest_below n d, nearest_above n d h))

-- ---- a near divisor
-- t and t* may be divided by, and differ by the part e of t* at most
pub record Divisor (e : Ratio) (t : ℕ) (t* : Ratio) : Type 0 where
  pub above : 0 < t
  pub above* : Positive t*
  pub proper* : Proper t*
  pub part : Proper e
  pub near : Close (t* ⊗ e) (whole t) t*

cancelled : {a b : Ratio} → Proper a → Proper b → Positive b → b ⊗ (a ⊘ b) ≈ a
cancelled {a} {b} ha hb k = let sorted : b ⊗ (a ⊘ b) ≡ a ⊗ b ⊘ b = simp Ac in rw sorted (cancel ha hb k)

-- then x / t* and x / t, which are t and t* times x / (t t*), differ by the part e of x / t
over_near : {e t t* : Ratio} (x : Ratio) → Proper x → Proper e → Proper t → Proper t* → Positive t → Positive t*
    → Close (t* ⊗ e) t t* → Close (x ⊘ t ⊗ e) (x ⊘ t) (x ⊘ t*)
over_near {e} {t} {t*} x hx he ht ht* k k* near =
    let both = close-⊗ t* t {c = x ⊘ t ⊘ t*} (search proper) (apart_sym near) in
    let other : x ⊘ t ⊘ t* ≡ x ⊘ t* ⊘ t = simp Ac in
    let part : t* ⊗ e ⊗ (x ⊘ t ⊘ t*) ≡ t* ⊗ (x ⊘ t ⊗ e ⊘ t*) = simp Ac in
    apart_more
    (apart-≈ (cancelled (search proper) ht* k*) (rw other (cancelled (search proper) ht k)) both)
    (rw part (≼-of (cancelled (search proper) ht* k*)))

-- ---- shares
-- x / t is u at most, and within δ of x* / t*
pub record Share (u δ : Ratio) (x t : ℕ) (x* t* : Ratio) : Type 0 where
  pub above : 0 < t
  pub most : x over t ≼ u
  pub near : Close δ (x over t) (x* ⊘ t*)

one_most : {x t : ℕ} → 0 < t → x ≤ t → x over t ≼ whole 1
unfolding whole ◌over◌
one_most ht le = omega arith

-- of whole numbers: exact
pub exact : {u : Ratio} (x t : ℕ) → 0 < t → x over t ≼ u → Share u (whole 0) x t (whole x) (whole t)
exact x t ht le =
    record { above = ht; most = le; near = rw whole-⊘ (close_refl (whole_proper 0) (over_proper x ht)) }

pub exact_part : (x t : ℕ) → 0 < t → x ≤ t → Share (whole 1) (whole 0) x t (whole x) (whole t)
exact_part x t ht le = exact x t ht (one_most ht le)

-- of a whole number and a near divisor
pub over_divisor : {u e t* : Ratio} {t : ℕ} (x : ℕ) → Divisor e t t* → x over t ≼ u → Share u (u ⊗ e) x t (whole x) t*
over_divisor x d le =
    let close = over_near (whole x) (whole_proper x) d.part (whole_proper _) d.proper* (whole_positive d.above) d.above* d.near in
    record { above = d.above; most = le; near = apart_more (rw whole-⊘ at close) (⊗-mono le (≼_refl d.part)) }

-- of two that are near, the upper no more than the divisor
pub near_part : {e x* t* : Ratio} {x t : ℕ} → Close (x* ⊗ e) (whole x) x* → Divisor e t t* → x ≤ t → x* ≼ t*
    → Share (whole 1) (e ⊕ e) x t x* t*
near_part {e} {x*} {t*} {x} close d le le* =
    let upper = close-⊗ (whole x) x* (inverse_proper d.above*) close in
    let lower = over_divisor x d (one_most d.above le) in
    let less : x* ⊗ e ⊘ t* ≼ e =
    ⊗-mono (⊗-mono le* (≼_refl d.part)) (≼_refl (inverse_proper d.above*))
    ∙≼ rw (⊗-comm t* e) (≼-of (cancel d.part d.proper* d.above*)) in
    record { above = d.above; most = lower.most; near = apart_trans (rw one-⊗ at lower.near) (apart_more upper less) }

-- ---- a near factor times a share
-- f is within ε of a, and a is α at most
pub record Factor (ε α : Ratio) (f : ℕ) (a : Ratio) : Type 0 where
  pub near : Close ε (whole f) a
  pub most : a ≼ α

-- a half for the rounding, and what each strays times the size of the other
abbrev pub strays : (ε α u δ : Ratio) → Ratio
strays ε α u δ = 1 over 2 ⊕ (ε ⊗ u ⊕ δ ⊗ α)

pub product : {ε α u δ a x* t* limit : Ratio} {f x t : ℕ} → Factor ε α f a → Share u δ x t x* t* → strays ε α u δ ≼ limit
    → Close limit (whole (nearest (f * x) t)) (a ⊗ x* ⊘ t*)
product {a} {x*} {t*} {f} {x} {t} factor share le =
    let first = close-⊗ (whole f) a (over_proper x share.above) factor.near in
    let second = close-⊗ (x over t) (x* ⊘ t*) factor.most.left share.near in
    let times : whole f ⊗ x over t ≡ (f * x) over t = simp (← whole-⊘, ← whole-⊗, ⊗-assoc) in
    let sorted : a ⊗ x* ⊘ t* ≡ x* ⊘ t* ⊗ a = simp Ac in
    rw sorted
    (apart_more
    (apart_trans (rounded (f * x) t share.above)
    (apart_trans
    (apart_more (rw (times, ⊗-comm a (x over t)) at first) (⊗-mono (≼_refl factor.near.apart.right) share.most))
    (apart_more second (⊗-mono (≼_refl share.near.apart.right) factor.most))))
    le)
