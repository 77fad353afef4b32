-- The equations of rules 8.4 to 8.8, rounded and exact, from the one recursion. A reader holds these against the rules.
use mathlib.Core.Path.{◌≡◌, ap, ◌∙◌}
use Prim.Native.Nat.{ℕ, ◌+◌, ◌-◌, ◌*◌, ◌<◌}
use native.Mathlib.Omega.{arith}
use Rattle.rounding.specs.Nearest.{nearest}
use Rattle.fractions.specs.Ratio.{Ratio, ◌over◌, whole, ◌⊕◌, ◌⊗◌}
use Rattle.factors.specs.Recursion.{carried}
use Rattle.factors.specs.Basis.{Basis, certain}
use Rattle.factors.specs.Factors.{S, step, step*, A, A*, pension, pension*, G, G*, T, T*, Z, Z*, v, C, C*}
use Rattle.factors.proofs.Carried.{carried_at, carried_before, carried_still}

module _ (b : Basis) where
  open b use {i, r, P, W}

  -- ---- A
  pub A_at_120 : A b 120 ≡ S
  unfolding A
  A_at_120 = carried_at _ _ 120

  pub A*_at_120 : A* b 120 ≡ whole S
  unfolding A*
  A*_at_120 = carried_at _ _ 120

  pub A_below : (k : ℕ) → k < 120 → A b k ≡ S + step b k (A b (k + 1))
  unfolding A
  A_below k h = carried_before _ _ k 120 h

  pub A*_below : (k : ℕ) → k < 120 → A* b k ≡ whole S ⊕ step* b k (A* b (k + 1))
  unfolding A*
  A*_below k h = carried_before _ _ k 120 h

  -- ---- G; what it begins with is in PensionLaws.antt
  pub G_at_r : G b r ≡ pension b
  unfolding G
  G_at_r = carried_at _ _ r

  pub G*_at_r : G* b r ≡ pension* b
  unfolding G*
  G*_at_r = carried_at _ _ r

  pub G_below : (k : ℕ) → k < r → G b k ≡ step b k (G b (k + 1))
  unfolding G
  G_below k h = carried_before _ _ k r h

  pub G*_below : (k : ℕ) → k < r → G* b k ≡ step* b k (G* b (k + 1))
  unfolding G*
  G*_below k h = carried_before _ _ k r h

  -- ---- T
  pub T_at_end : (e : ℕ) → T b e e ≡ 0
  unfolding T
  T_at_end e = carried_at _ _ e

  pub T*_at_end : (e : ℕ) → T* b e e ≡ whole 0
  unfolding T*
  T*_at_end e = carried_at _ _ e

  pub T_below : (k e : ℕ) → k < e → T b k e ≡ S + step b k (T b (k + 1) e)
  unfolding T
  T_below k e h = carried_before _ _ k e h

  pub T*_below : (k e : ℕ) → k < e → T* b k e ≡ whole S ⊕ step* b k (T* b (k + 1) e)
  unfolding T*
  T*_below k e h = carried_before _ _ k e h

  -- ---- Z
  pub Z_at_end : (e : ℕ) → Z b e e ≡ 0
  unfolding Z
  Z_at_end e = carried_at _ _ e

  pub Z*_at_end : (e : ℕ) → Z* b e e ≡ whole 0
  unfolding Z*
  Z*_at_end e = carried_at _ _ e

  pub Z_below : (k e : ℕ) → k < e → Z b k e ≡ W k * S + step b k (Z b (k + 1) e)
  unfolding Z
  Z_below k e h = carried_before _ _ k e h

  pub Z*_below : (k e : ℕ) → k < e → Z* b k e ≡ whole (W k * S) ⊕ step* b k (Z* b (k + 1) e)
  unfolding Z*
  Z*_below k e h = carried_before _ _ k e h

  -- ---- staying and discount
  pub v_at : (k : ℕ) → v b k k ≡ whole 1
  unfolding v
  v_at k = carried_at _ _ k

  pub v_below : (k j : ℕ) → k < j → v b k j ≡ step* b k (v b (k + 1) j)
  unfolding v
  v_below k j h = carried_before _ _ k j h

-- ---- C
pub C_none : (i : ℕ) → C i 0 ≡ 0
unfolding C
C_none i = T_at_end (certain i) 0

pub C*_none : (i : ℕ) → C* i 0 ≡ whole 0
unfolding C*
C*_none i = T*_at_end (certain i) 0

pub C_more : (i m : ℕ) → C i (m + 1) ≡ S + nearest (C i m * 1000000) (100 * (10000 + i))
unfolding C T step
C_more i m =
    carried_before _ _ 0 (m + 1) (omega arith)
    ∙ ap (λ (f : ℕ). S + nearest (f * 1000000) (100 * (10000 + i)))
    (ap (carried _ 0 1) {x = m + 1 - (0 + 1)} {y = m - 0} (omega arith) ∙ carried_still _ 0 1 0 (m - 0))

pub C*_more : (i m : ℕ) → C* i (m + 1) ≡ whole S ⊕ C* i m ⊗ 1000000 over (100 * (10000 + i))
unfolding C* T* step*
C*_more i m =
    carried_before _ _ 0 (m + 1) (omega arith)
    ∙ ap (λ (f : Ratio). whole S ⊕ f ⊗ 1000000 over (100 * (10000 + i)))
    (ap (carried _ (whole 0) 1) {x = m + 1 - (0 + 1)} {y = m - 0} (omega arith) ∙ carried_still _ (whole 0) 1 0 (m - 0))
