-- The laws of `≈`: what keeps it, and the equations of sums and products that hold by cross products only.
use mathlib.Core.Path.{◌≡◌, ap}
use Prim.Native.Nat.{ℕ, ◌+◌, ◌-◌, ◌*◌}
use native.Mathlib.Omega.{arith}
use Rattle.fractions.specs.Ratio.{Ratio, ◌over◌, whole, ◌⊕◌, ◌⊝◌, ◌⊗◌, inverse, ◌⊘◌, Proper, Positive, ◌≈◌, ◌≼◌}
use Rattle.fractions.proofs.RatioLaws.{⊕-proper, ⊝-proper, ⊗-proper, inverse_proper}
use Rattle.fractions.proofs.OrderLaws.{≼-of, ◌∙≼◌, ⊕-mono, ⊗-mono}

pub ≈-refl : {a : Ratio} → Proper a → a ≈ a
≈-refl h = omega arith

pub ≈-of : {a b : Ratio} → Proper a → a ≡ b → a ≈ b
≈-of h e = rw (← e) (≈-refl h)

pub ≈-sym : {a b : Ratio} → a ≈ b → b ≈ a
≈-sym e = omega arith

-- equal is neither above the other
≈-by : {a b : Ratio} → a ≼ b → b ≼ a → a ≈ b
≈-by e f = omega arith

infixr 30 ◌∙≈◌
pub ◌∙≈◌ : {a b c : Ratio} → a ≈ b → b ≈ c → a ≈ c
◌∙≈◌ e f = ≈-by (≼-of e ∙≼ ≼-of f) (≼-of (≈-sym f) ∙≼ ≼-of (≈-sym e))

-- ---- what keeps it
pub ⊕-cong : {a b c d : Ratio} → a ≈ b → c ≈ d → a ⊕ c ≈ b ⊕ d
⊕-cong e f = ≈-by (⊕-mono (≼-of e) (≼-of f)) (⊕-mono (≼-of (≈-sym e)) (≼-of (≈-sym f)))

pub ⊗-cong : {a b c d : Ratio} → a ≈ b → c ≈ d → a ⊗ c ≈ b ⊗ d
⊗-cong e f = ≈-by (⊗-mono (≼-of e) (≼-of f)) (⊗-mono (≼-of (≈-sym e)) (≼-of (≈-sym f)))

-- ---- equations by cross products
pub zero-⊗ : {a : Ratio} → Proper a → whole 0 ⊗ a ≈ whole 0
unfolding ◌⊗◌ whole ◌over◌
zero-⊗ h = omega arith

pub ⊕-⊗ : {a b c : Ratio} → Proper a → Proper b → Proper c → (a ⊕ b) ⊗ c ≈ a ⊗ c ⊕ b ⊗ c
unfolding ◌⊗◌ ◌⊕◌
⊕-⊗ ha hb hc = omega (arith, ⊗-proper (⊕-proper ha hb) hc, ⊕-proper (⊗-proper ha hc) (⊗-proper hb hc))

-- what is taken off and put back
pub ⊝-⊕ : {a b : Ratio} → b ≼ a → (a ⊝ b) ⊕ b ≈ a
unfolding ◌⊝◌ ◌⊕◌
⊝-⊕ {a} {b} le =
    let left : a.upper * b.lower ≡ (a.upper * b.lower - b.upper * a.lower) + b.upper * a.lower = omega arith in
    let times = ap (λ (n : ℕ). n * (a.lower * b.lower)) left in
    record { left = ⊕-proper (⊝-proper le.right le.left) le.left; right = le.right; cross = omega arith }

pub cancel : {a b : Ratio} → Proper a → Proper b → Positive b → a ⊗ b ⊘ b ≈ a
unfolding ◌⊗◌ inverse
cancel ha hb k = record { left = ⊗-proper (⊗-proper ha hb) (inverse_proper k); right = ha; cross = omega arith }
