-- The laws of `≼`: an order, kept by sums and products and turned round by inverses.
use Prim.Native.Nat.{ℕ, ◌-◌, ◌*◌, ◌≤◌, ◌<◌}
use native.Mathlib.Omega.{arith}
use native.Mathlib.Nat.{mul-le-mul_right, le_of_mul-le-mul_right}
use Rattle.fractions.specs.Ratio.{Ratio, ◌over◌, whole, ◌⊕◌, ◌⊝◌, ◌⊗◌, Proper, ◌≈◌, ◌≼◌}
use Rattle.fractions.proofs.RatioLaws.{⊕-proper, ⊝-proper, ⊗-proper}

pub zero-≼ : {a : Ratio} → Proper a → whole 0 ≼ a
unfolding whole ◌over◌
zero-≼ h = omega arith

pub ≼_refl : {a : Ratio} → Proper a → a ≼ a
≼_refl h = omega arith

pub ≼-of : {a b : Ratio} → a ≈ b → a ≼ b
≼-of e = omega arith

infixr 30 ◌∙≼◌
pub ◌∙≼◌ : {a b c : Ratio} → a ≼ b → b ≼ c → a ≼ c
◌∙≼◌ {a} {b} {c} e f =
    let x = mul-le-mul_right c.lower e.cross in
    let y = mul-le-mul_right a.lower f.cross in
    record { left = e.left; right = f.right; cross = le_of_mul-le-mul_right {k = b.lower} (omega arith) e.right.above }

-- ---- sums and products
pub ⊕-mono : {a b c d : Ratio} → a ≼ b → c ≼ d → a ⊕ c ≼ b ⊕ d
unfolding ◌⊕◌
⊕-mono {a} {b} {c} {d} e f =
    let x = mul-le-mul_right (c.lower * d.lower) e.cross in
    let y = mul-le-mul_right (a.lower * b.lower) f.cross in
    omega (arith, ⊕-proper e.left f.left, ⊕-proper e.right f.right)

pub ⊗-mono : {a b c d : Ratio} → a ≼ b → c ≼ d → a ⊗ c ≼ b ⊗ d
unfolding ◌⊗◌
⊗-mono {a} {b} {c} {d} e f =
    let x = mul-le-mul_right (c.upper * d.lower) e.cross in
    let y = mul-le-mul_right (b.upper * a.lower) f.cross in
    omega (arith, ⊗-proper e.left f.left, ⊗-proper e.right f.right)

pub ≼-⊕ : {a b : Ratio} → Proper a → Proper b → a ≼ a ⊕ b
unfolding ◌⊕◌
≼-⊕ ha hb = record { left = ha; right = ⊕-proper ha hb; cross = omega arith }

pub ⊝-≼ : {a b : Ratio} → Proper a → Proper b → a ⊝ b ≼ a
unfolding ◌⊝◌
⊝-≼ {a} {b} ha hb =
    let less = mul-le-mul_right {m = a.upper * b.lower - b.upper * a.lower} {n = a.upper * b.lower} a.lower (omega arith) in
    record { left = ⊝-proper ha hb; right = ha; cross = omega arith }

-- ---- whole numbers
pub over-≼ : (m n : ℕ) {d e : ℕ} → 0 < d → 0 < e → m * e ≤ n * d → m over d ≼ n over e
unfolding ◌over◌
over-≼ m n hd he h = omega arith

pub whole-≼ : {m n : ℕ} → m ≤ n → whole m ≼ whole n
unfolding whole ◌over◌
whole-≼ h = omega arith
