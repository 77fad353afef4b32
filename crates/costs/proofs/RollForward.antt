-- Demand 3, roll-forward: by each method the liability with the year's normal cost is the year step of the next year's liability; and at r the liability is the present value.
-- One shape serves the five methods: L is share × worth and N is gain × worth; in a year the share grows by the gain, and the worth is carried by the year step.
-- Nothing divides by staying, which may be 0.
use mathlib.Core.Path.{◌≡◌, refl, sym}
use mathlib.Core.Bool.{Bool, true, false, cond}
use Prim.Native.Nat.{ℕ, suc, ◌+◌, ◌-◌, ◌*◌, ◌≤◌, ◌<◌}
use native.Mathlib.Omega.{arith}
use lib.Dec.{T as Yes, ltb, lt→ltb}
use Rattle.fractions.specs.Ratio.{Ratio, whole, ◌⊕◌, ◌⊗◌, ◌⊘◌, Proper, Positive, ◌≈◌}
use Rattle.fractions.proofs.RatioLaws.{⊗-assoc, one-⊗, whole-⊕, whole_proper, ⊗-proper, whole_positive, Ac, proper}
use Rattle.fractions.proofs.EqualLaws.{≈-refl, ≈-of, ≈-sym, ◌∙≈◌, ⊕-cong, ⊗-cong, ⊕-⊗, cancel}
use Rattle.factors.specs.Factors.{S, step*, G*, T*, Z*, v}
use Rattle.factors.proofs.Equations.{G*_below}
use Rattle.factors.proofs.Chains.{G*_chain, T*_chain, Z*_chain}
use Rattle.factors.proofs.Sizes.{G*_proper, T*_proper, Z*_proper, v_proper, T*_positive, Z*_positive}
use Rattle.plan.specs.declared.Method.{Method}
use Rattle.plan.specs.declared.Method.TheVariants.{AB, BD, BP, CD, CP}
use Rattle.costs.specs.Setting.{Setting, SoundSetting}
use Rattle.plan.specs.Weights.{summed}
use Rattle.plan.proofs.WeightLaws.{summed_more}
use Rattle.costs.specs.Costs.{r, W, M, PV*, cost*, N*, L*}
use Rattle.costs.specs.Demand3.{RollForward}

aside : (f s z : Ratio) → f ⊗ s ⊗ z ≡ s ⊗ (f ⊗ z)
aside f s z = simp Ac

whole_grow : (a b : ℕ) {t : ℕ} → a + b ≡ t → whole a ⊕ whole b ≈ whole t
whole_grow a b {t} e = rw (whole-⊕, e) (≈-refl (whole_proper t))

cond_yes : (b : Bool) (x y : Ratio) → Yes b → cond b x y ≡ x
cond_yes true x y h = refl
cond_yes false x y h = absurd h

cond_proper : (b : Bool) {x y : Ratio} → Proper x → Proper y → Proper (cond b x y)
cond_proper true h k = h
cond_proper false h k = k

-- a statement of every method, from the five
pub each : (P : Method → Type 0) → P AB × P BD × P BP × P CD × P CP → (m : Method) → P m
each P h AB = h.0
each P h BD = h.1
each P h BP = h.2
each P h CD = h.3
each P h CP = h.4

pub S_positive : 0 < S
S_positive = omega arith

module _ (c : Setting) where
  open c use {basis, B, y}

  pub PV*_proper : (k : ℕ) → Proper (PV* c k)
  unfolding PV*
  PV*_proper k = search (proper, G*_proper, S_positive)

  pub PV*_step : (k : ℕ) → k < r c → PV* c k ≡ step* basis k (PV* c (k + 1))
  unfolding PV* step*
  PV*_step k h = rw (G*_below basis k) (simp Ac)

  pub N*_below : (m : Method) (k : ℕ) → k < r c → N* c m k ≡ cost* c m k
  unfolding N*
  N*_below m k h = cond_yes (ltb k (r c)) (cost* c m k) (whole 0) (lt→ltb k (r c) h)

  step-⊗ : (k : ℕ) (f f' z : Ratio) → f ≡ step* basis k f' → f ⊗ z ≡ step* basis k (f' ⊗ z)
  unfolding step*
  step-⊗ k f f' z e = rw e (simp Ac)

  -- ---- the five methods
  -- what is earned by k, in the method's own measure, and what the year from k on adds to it
  share : Method → ℕ → Ratio
  share AB k = whole (B k)
  share BD k = whole (k - y)
  share BP k = whole (summed (W c) y (k - y))
  share CD k = T* basis y k
  share CP k = Z* basis y k

  gain : Method → ℕ → Ratio
  gain AB k = whole (B (k + 1) - B k)
  gain BD k = whole 1
  gain BP k = whole (W c k)
  gain CD k = v basis y k ⊗ whole S
  gain CP k = v basis y k ⊗ whole (W c k * S)

  -- what one of the share is worth at k
  worth : Method → ℕ → Ratio
  worth AB k = G* basis k ⊘ whole S
  worth BD k = PV* c k ⊘ whole (r c - y)
  worth BP k = PV* c k ⊘ whole (M c)
  worth CD k = PV* c k ⊘ T* basis y (r c)
  worth CP k = PV* c k ⊘ Z* basis y (r c)

  worth_step : (m : Method) (k : ℕ) → k < r c → worth m k ≡ step* basis k (worth m (k + 1))
  unfolding worth
  worth_step = each _ (search (step-⊗, G*_below, PV*_step))

  L_is : (m : Method) (k : ℕ) → L* c m k ≡ share m k ⊗ worth m k
  unfolding L* share worth
  L_is = each _ (search (⊗-assoc, aside))

  -- x at entry is worth as much as v × x at k
  since_entry : (k : ℕ) (x z : Ratio) → y ≤ k → k ≤ r c → PV* c y ⊗ x ⊗ z ≡ v basis y k ⊗ x ⊗ (PV* c k ⊗ z)
  unfolding PV*
  since_entry k x z a b = rw (G*_chain basis y k a) (simp Ac)

  module _ (ok : SoundSetting c) where
    open ok use {enters, weighty, rises}

    -- ---- what the methods divide by
    pub years_positive : 0 < r c - y
    years_positive = omega arith

    pub M_positive : 0 < M c
    unfolding summed
    M_positive =
        let years : r c - y ≡ suc (r c - y - 1) = omega arith in
        rw years (omega (arith, weighty y (omega arith) enters))

    pub T_positive : Positive (T* basis y (r c))
    T_positive = T*_positive basis y (r c) enters

    pub Z_positive : Positive (Z* basis y (r c))
    Z_positive = Z*_positive basis y (r c) enters (omega (arith, weighty y (omega arith) enters))

    -- ---- every figure is a fraction
    ruleset figures = (proper, PV*_proper, G*_proper, T*_proper, Z*_proper, v_proper, S_positive, years_positive, M_positive, T_positive, Z_positive)

    share_proper : (m : Method) (k : ℕ) → Proper (share m k)
    unfolding share
    share_proper = each _ (search figures)

    gain_proper : (m : Method) (k : ℕ) → Proper (gain m k)
    unfolding gain
    gain_proper = each _ (search figures)

    worth_proper : (m : Method) (k : ℕ) → Proper (worth m k)
    unfolding worth
    worth_proper = each _ (search figures)

    cost_proper : (m : Method) (k : ℕ) → Proper (cost* c m k)
    unfolding cost*
    cost_proper = each _ (search figures)

    pub L*_proper : (m : Method) (k : ℕ) → Proper (L* c m k)
    unfolding L*
    L*_proper = each _ (search figures)

    pub N*_proper : (m : Method) (k : ℕ) → Proper (N* c m k)
    unfolding N*
    N*_proper m k = cond_proper (ltb k (r c)) (cost_proper m k) (whole_proper 0)

    -- ---- the year
    grow : (m : Method) (k : ℕ) → y ≤ k → k < r c → share m k ⊕ gain m k ≈ share m (k + 1)
    unfolding share gain
    grow AB k a b = whole_grow _ _ (omega (arith, rises k a b))
    grow BD k a b = whole_grow _ _ (omega arith)
    grow BP k a b =
        let years : k + 1 - y ≡ k - y + 1 = omega arith in
        let k_is : y + (k - y) ≡ k = omega arith in
        whole_grow _ _ (rw years (rw k_is at (sym (summed_more (W c) y (k - y)))))
    grow CD k a b = ≈-sym (T*_chain basis y k a)
    grow CP k a b = ≈-sym (Z*_chain basis y k a)

    cost_is : (m : Method) (k : ℕ) → y ≤ k → k < r c → cost* c m k ≈ gain m k ⊗ worth m k
    unfolding PV* cost* gain worth
    cost_is AB k a b = ≈-of (cost_proper AB k) (⊗-assoc _ _ _)
    cost_is BD k a b = ≈-of (cost_proper BD k) (rw one-⊗)
    cost_is BP k a b = ≈-of (cost_proper BP k) (aside _ _ _)
    cost_is CD k a b =
        let times_S : PV* c y ⊗ whole S ⊘ T* basis y (r c) ≡ cost* c CD k ⊗ whole S ⊘ whole S = simp Ac in
        rw (← (since_entry k (whole S) _ a (omega arith)), times_S)
        (≈-sym (cancel (cost_proper CD k) (whole_proper S) (whole_positive S_positive)))
    cost_is CP k a b = ≈-of (cost_proper CP k) (since_entry k _ _ a (omega arith))

    roll : (m : Method) (k : ℕ) → y ≤ k → k < r c → L* c m k ⊕ N* c m k ≈ step* basis k (L* c m (k + 1))
    unfolding step*
    roll m k a b =
        let hs : Proper (share m k) = share_proper m k in
        let hw : Proper (worth m k) = worth_proper m k in
        rw (N*_below m k, L_is m k, L_is m (k + 1), ⊗-assoc (share m (k + 1)), ← (worth_step m k b))
        (⊕-cong (≈-refl (⊗-proper hs hw)) (cost_is m k a b)
        ∙≈ ≈-sym (⊕-⊗ hs (gain_proper m k) hw)
        ∙≈ ⊗-cong (grow m k a b) (≈-refl hw))

    pub last : (m : Method) → L* c m (r c) ≈ PV* c (r c)
    unfolding L* PV*
    last = each _ (search (figures, ≈-refl, cancel))

pub roll_forward : RollForward
roll_forward = roll
