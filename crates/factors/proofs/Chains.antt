-- Chain facts of the exact factors: what is carried from k to r is carried from k to j and from j to r, and an annuity that ends a year later has one payment more.
-- Nothing divides by staying, which may be 0.
use mathlib.Core.Path.{◌≡◌, sym, ap, ◌∙◌}
use Prim.Native.Nat.{ℕ, zero, suc, ◌+◌, ◌-◌, ◌*◌, ◌≤◌}
use native.Mathlib.Omega.{arith}
use Rattle.fractions.specs.Ratio.{Ratio, ◌over◌, whole, ◌⊕◌, ◌⊗◌, Proper, ◌≈◌}
use Rattle.fractions.proofs.RatioLaws.{⊕-assoc, ⊕-zero, zero-⊕, one-⊗, whole_proper, over_proper, ⊗-proper, Ac, proper}
use Rattle.fractions.proofs.EqualLaws.{≈-refl, ≈-of, ◌∙≈◌, ⊕-cong, ⊗-cong, zero-⊗, ⊕-⊗}
use Rattle.factors.specs.Recursion.{carried}
use Rattle.factors.specs.Basis.{Basis}
use Rattle.factors.specs.Factors.{S, step*, pension*, G*, T*, Z*, v}
use Rattle.factors.proofs.Carried.{carried_both, carried_split}
use Rattle.factors.proofs.Annuities.{paying*, deferred_proper, annuity_proper}

module _ (b : Basis) where
  rate_proper : (k : ℕ) → Proper (b.P k over (100 * (10000 + b.i)))
  rate_proper k = over_proper (b.P k) (omega arith)

  -- what is carried back is a multiple of staying and discount
  deferred_is : (g : Ratio) (k n : ℕ) → carried (step* b) g k n ≡ carried (step* b) (whole 1) k n ⊗ g
  unfolding step*
  deferred_is g k n =
      carried_both (λ n f h. f ≡ h ⊗ g) (step* b) (step* b) g (whole 1) (sym (one-⊗ g)) k n
      (λ j n from to f h e. ap (λ (x : Ratio). x ⊗ b.P j over (100 * (10000 + b.i))) e ∙ simp Ac)

  -- G(k) = v(k,j) G(j)
  pub G*_chain : (k j : ℕ) → k ≤ j → j ≤ b.r → G* b k ≡ v b k j ⊗ G* b j
  unfolding G* v
  G*_chain k j kj jr =
      let years : b.r - k ≡ j - k + (b.r - j) = omega arith in
      let there : k + (j - k) ≡ j = omega arith in
      rw (years, carried_split (step* b) (pension* b) k (j - k) (b.r - j), there)
      (deferred_is (carried (step* b) (pension* b) j (b.r - j)) k (j - k))

  -- one payment more
  annuity_more : (w : ℕ → ℕ) (n k : ℕ)
      → carried (paying* b w) (whole 0) k (suc n)
      ≈ carried (paying* b w) (whole 0) k n ⊕ carried (step* b) (whole 1) k n ⊗ whole (w (k + n))
  unfolding carried step*
  annuity_more w zero k =
      let k_is : k + zero ≡ k = omega arith in
      rw (k_is, zero-⊕, one-⊗)
      (⊕-cong (≈-refl (whole_proper (w k))) (zero-⊗ (rate_proper k)) ∙≈ ≈-of (search proper) (⊕-zero (whole (w k))))
  annuity_more w (suc n) k =
      let f : Ratio = carried (step* b) (whole 1) (suc k) n in
      let q : Ratio = b.P k over (100 * (10000 + b.i)) in
      let k_is : k + suc n ≡ suc k + n = omega arith in
      let swap : f ⊗ q ⊗ whole (w (suc k + n)) ≡ f ⊗ whole (w (suc k + n)) ⊗ q = simp Ac in
      let hf : Proper (f ⊗ whole (w (suc k + n))) = ⊗-proper (deferred_proper b (whole_proper 1) (suc k) n) (whole_proper (w (suc k + n))) in
      rw (k_is, ⊕-assoc, swap)
      (⊕-cong (≈-refl (whole_proper (w k)))
      (⊗-cong (annuity_more w n (suc k)) (≈-refl (rate_proper k))
      ∙≈ ⊕-⊗ (annuity_proper b w (whole_proper 0) (suc k) n) hf (rate_proper k)))

  annuity_chain : (w : ℕ → ℕ) (y k : ℕ) → y ≤ k
      → carried (paying* b w) (whole 0) y (k + 1 - y)
      ≈ carried (paying* b w) (whole 0) y (k - y) ⊕ v b y k ⊗ whole (w k)
  unfolding v
  annuity_chain w y k h =
      let years : k + 1 - y ≡ suc (k - y) = omega arith in
      let there : y + (k - y) ≡ k = omega arith in
      rw years (rw there at (annuity_more w (k - y) y))

  -- T(y,k+1) = T(y,k) + v(y,k) S
  pub T*_chain : (y k : ℕ) → y ≤ k → T* b y (k + 1) ≈ T* b y k ⊕ v b y k ⊗ whole S
  unfolding T*
  T*_chain y k h = annuity_chain (λ j. S) y k h

  -- Z(y,k+1) = Z(y,k) + v(y,k) W(k) S
  pub Z*_chain : (y k : ℕ) → y ≤ k → Z* b y (k + 1) ≈ Z* b y k ⊕ v b y k ⊗ whole (b.W k * S)
  unfolding Z*
  Z*_chain y k h = annuity_chain (λ j. b.W j * S) y k h
