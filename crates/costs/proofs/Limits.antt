-- Demand 3, the limits: how far each rounded normal cost and liability lies from its exact fraction, at the most.
use mathlib.Core.Path.{◌≡◌}
use mathlib.Core.Bool.{Bool, true, false, cond}
use Prim.Native.Nat.{ℕ, zero, suc, ◌+◌, ◌-◌, ◌*◌, ◌≤◌, ◌<◌}
use native.Mathlib.Nat.{le_refl, add-zero, mul_comm, mul-one, mul_assoc, mul-pos, mul-le-mul_left, mul-le-mul_right}
use native.Mathlib.Omega.{arith}
use lib.Dec.{T as Yes, ltb, ltb→lt}
use Rattle.rounding.specs.Nearest.{nearest}
use Rattle.fractions.specs.Ratio.{Ratio, ◌over◌, whole, ◌⊕◌, ◌⊗◌, inverse, ◌⊘◌, Proper, ◌≼◌}
use Rattle.fractions.proofs.RatioLaws.{⊗-comm, ⊗-one, whole_proper, over_proper, whole_positive, inverse_proper, proper}
use Rattle.fractions.proofs.OrderLaws.{◌∙≼◌, ≼_refl, ⊕-mono, ⊗-mono, whole-≼, over-≼}
use Rattle.fractions.proofs.ApartLaws.{apart_more}
use Rattle.factors.specs.Factors.{S, G, G*, T, T*, Z, Z*}
use Rattle.factors.specs.Accuracy.{Within}
use Rattle.factors.proofs.Sizes.{G*_most, T_least, T_longer, T*_proper, T*_positive, T*_longer, Z_least, Z_longer, Z*_proper, Z*_positive, Z*_longer}
use Rattle.factors.proofs.Accuracy.{G_accuracy, T_accuracy, Z_accuracy}
use Rattle.plan.specs.declared.Method.{Method}
use Rattle.plan.specs.declared.Method.TheVariants.{AB, BD, BP, CD, CP}
use Rattle.costs.specs.Setting.{Setting, SoundSetting}
use Rattle.plan.specs.Weights.{summed}
use Rattle.plan.proofs.WeightLaws.{summed_split}
use Rattle.costs.specs.Costs.{r, W, M, PV, PV*, cost, cost*, N, N*, L, L*}
use Rattle.costs.specs.Demand3.{V_limit, N_limit, L_limit, SharpLimits, N_most, Limits}
use Rattle.costs.proofs.RollForward.{M_positive}
use Rattle.costs.proofs.Quotients.{close_refl, Divisor, Share, exact, exact_part, over_divisor, near_part, Factor, strays, product}

-- ---- the limits in numbers
-- how far G strays, in billionths, and how large it is
abbrev G_strays : Ratio
G_strays = 53 over 1

abbrev G_top : Ratio
G_top = whole (71 * S)

-- the same of PV, in cents, where the benefit is b
abbrev PV_strays : ℕ → Ratio
PV_strays b = 1 over 2 ⊕ whole 53 ⊗ b over S

abbrev PV_top : ℕ → Ratio
PV_top b = whole (71 * b)

-- T and Z stray by this part of themselves
abbrev T_part : Ratio
T_part = 1 over (2 * S)

abbrev Z_part : Ratio
Z_part = 1 over (2 * (1000 * S))

-- G is shared as a benefit to S or to T; PV as the part earned to the whole, 1 at most
record Numbers (b : ℕ) : Type 0 where
  PV_size : whole b ⊗ G_top ⊘ whole S ≼ PV_top b
  over_S : strays G_strays G_top (b over S) (whole 0) ≼ PV_strays b
  over_T : strays G_strays G_top (b over S) (b over S ⊗ T_part) ≼ 1 over 2 ⊕ 885 over 10 ⊗ b over S
  exact_share : strays (PV_strays b) (PV_top b) (whole 1) (whole 0) ≼ whole 1 ⊕ whole 53 ⊗ b over S
  T_share : strays (PV_strays b) (PV_top b) (whole 1) (T_part ⊕ T_part) ≼ whole 1 ⊕ whole 124 ⊗ b over S
  Z_share_once : strays (PV_strays b) (PV_top b) (whole 1) (1 over (1000 * S)) ≼ whole 1 ⊕ 53071 over 1000 ⊗ b over S

numbers : (b : ℕ) → Numbers b
unfolding ◌over◌ whole ◌⊕◌ ◌⊗◌ inverse
numbers b = omega arith

-- the two parts of Z as one: with the sum of both in it the numbers above are too long for `omega`
Z_twice : Z_part ⊕ Z_part ≼ 1 over (1000 * S)
unfolding ◌over◌ ◌⊕◌
Z_twice = omega arith

Z_share : (b : ℕ) → strays (PV_strays b) (PV_top b) (whole 1) (Z_part ⊕ Z_part) ≼ whole 1 ⊕ 53071 over 1000 ⊗ b over S
Z_share b =
    let half : Proper (1 over 2) = over_proper 1 (omega arith) in
    let share : Proper (b over S) = over_proper b (omega arith) in
    ⊕-mono (≼_refl half) (⊕-mono (≼_refl (search proper)) (⊗-mono Z_twice (≼_refl (whole_proper (71 * b)))))
    ∙≼ (numbers b).Z_share_once

share_of : (a b t : ℕ) → a ≤ b → S ≤ t → a over t ≼ b over S
share_of a b t ha ht = over-≼ a b (omega arith) (omega arith) (omega (arith, mul-le-mul_left b ht, mul-le-mul_right S ha))

-- the half counts W(k) / W(y) times too, since that is 1 at least
weighted : (b v w : ℕ) → 0 < v → v ≤ w → strays (PV_strays b) (PV_top b) (w over v) (w over v ⊗ Z_part) ≼ (whole 1 ⊕ 530355 over 10000 ⊗ b over S) ⊗ w over v
unfolding ◌over◌ whole ◌⊕◌ ◌⊗◌
weighted b v w hv h = omega (arith, mul-pos hv hv, mul-le-mul_left (v * v) h)

-- ---- what never falls, and sums of weights
climb : (F : ℕ → ℕ) (k n : ℕ) → ((j : ℕ) → k ≤ j → j < k + n → F j ≤ F (j + 1)) → F k ≤ F (k + n)
climb F k zero rises = rw add-zero (le_refl (F k))
climb F k (suc n) rises =
    let next : k + suc n ≡ k + n + 1 = omega arith in
    rw next (omega (arith, climb F k n (λ j from to. rises j from (omega arith)), rises (k + n) (omega arith) (omega arith)))

module _ (c : Setting) (sound : SoundSetting c) where
  open c use {basis, B, y}
  open sound use {fair, enters, weighty, climbs, capped, rises}

  -- no benefit is above a later one, and no weight below the first
  pub B_rises : {k j : ℕ} → y ≤ k → k ≤ j → j ≤ r c → B k ≤ B j
  B_rises {k} {j} yk kj jr =
      let end : k + (j - k) ≡ j = omega arith in
      rw end at (climb B k (j - k) (λ i from to. rises i (omega arith) (omega arith)))

  B_last : (k : ℕ) → y ≤ k → k ≤ r c → B k ≤ B (r c)
  B_last k yk kr = B_rises yk kr (le_refl (r c))

  pub B_most : (k : ℕ) → y ≤ k → k ≤ r c → B k ≤ 100000000
  B_most k yk kr = omega (arith, capped, B_last k yk kr)

  pub W_least : (k : ℕ) → y ≤ k → k < r c → W c y ≤ W c k
  W_least k yk kr =
      let there : y + (k - y) ≡ k = omega arith in
      rw there at (climb (W c) y (k - y) (λ j from to. climbs j from (omega arith)))

  W_some : 1000 ≤ W c y
  W_some = weighty y (le_refl y) enters

  pub M_split : (k : ℕ) → y ≤ k → k ≤ r c → M c ≡ summed (W c) y (k - y) + summed (W c) k (r c - k)
  M_split k yk kr =
      let years : r c - y ≡ k - y + (r c - k) = omega arith in
      let there : y + (k - y) ≡ k = omega arith in
      rw years (rw there at (summed_split (W c) y (k - y) (r c - k)))

  pub W_most : (k : ℕ) → y ≤ k → k < r c → W c k ≤ M c
  unfolding summed
  W_most k yk kr =
      let years : r c - k ≡ suc (r c - k - 1) = omega arith in omega (arith, rw years at (M_split k yk (omega arith)))

  -- ---- G, and a benefit times G
  G_most : (k : ℕ) → G* basis k ≼ G_top
  G_most k = G*_most basis fair k (omega arith) ∙≼ whole-≼ (omega arith)

  G_factor : (k : ℕ) → y ≤ k → k ≤ r c → Factor G_strays G_top (G basis k) (G* basis k)
  G_factor k yk kr =
      record {
        near =
            apart_more (G_accuracy basis fair (omega arith) k kr)
            (over-≼ (121 - k) _ (omega arith) (omega arith) (omega arith));
        most = G_most k;
      }

  benefit : {u δ t* limit : Ratio} {b t : ℕ} (k : ℕ) → y ≤ k → k ≤ r c → Share u δ b t (whole b) t*
      → strays G_strays G_top u δ ≼ limit → Within limit (nearest (b * G basis k) t) (whole b ⊗ G* basis k ⊘ t*)
  benefit {b} k yk kr share le =
      rw (mul_comm b (G basis k), ⊗-comm (whole b) (G* basis k)) (product (G_factor k yk kr) share le)

  benefit_value : (b k : ℕ) → b ≤ B (r c) → y ≤ k → k ≤ r c
      → Within (PV_strays (B (r c))) (nearest (b * G basis k) S) (whole b ⊗ G* basis k ⊘ whole S)
  benefit_value b k hb yk kr =
      benefit k yk kr (exact b S (omega arith) (share_of b (B (r c)) S hb (omega arith))) (numbers (B (r c))).over_S

  -- ---- PV
  PV_close : (k : ℕ) → y ≤ k → k ≤ r c → Within (V_limit c) (PV c k) (PV* c k)
  unfolding PV PV* V_limit
  PV_close k = benefit_value (B (r c)) k (le_refl (B (r c)))

  PV*_most : (k : ℕ) → PV* c k ≼ PV_top (B (r c))
  unfolding PV*
  PV*_most k =
      ⊗-mono (⊗-mono (whole-≼ (le_refl (B (r c)))) (G_most k)) (≼_refl (inverse_proper (whole_positive (omega arith))))
      ∙≼ (numbers (B (r c))).PV_size

  PV_factor : (k : ℕ) → y ≤ k → k ≤ r c → Factor (PV_strays (B (r c))) (PV_top (B (r c))) (PV c k) (PV* c k)
  unfolding V_limit
  PV_factor k yk kr = record { near = PV_close k yk kr; most = PV*_most k }

  -- ---- T and Z
  T_divisor : Divisor T_part (T basis y (r c)) (T* basis y (r c))
  T_divisor =
      record {
        above = omega (arith, T_least basis y (r c) enters);
        above* = T*_positive basis y (r c) enters;
        proper* = T*_proper basis y (r c);
        part = over_proper 1 (omega arith);
        near = T_accuracy basis fair y (r c);
      }

  Z_divisor : Divisor Z_part (Z basis y (r c)) (Z* basis y (r c))
  Z_divisor =
      record {
        above = omega (arith, W_some, Z_least basis y (r c) enters);
        above* = Z*_positive basis y (r c) enters (omega (arith, W_some));
        proper* = Z*_proper basis y (r c);
        part = over_proper 1 (omega arith);
        near = Z_accuracy basis fair y (r c) weighty;
      }

  Z_weight : (k : ℕ) → W c k * S over Z basis y (r c) ≼ W c k over W c y
  Z_weight k =
      over-≼ (W c k * S) (W c k) Z_divisor.above (omega (arith, W_some))
      (omega (arith, mul-le-mul_left (W c k) (Z_least basis y (r c) enters)))

  -- ---- by each method
  cost_within : (m : Method) (k : ℕ) → y ≤ k → k < r c → Within (N_limit c m k) (cost c m k) (cost* c m k)
  unfolding cost cost* N_limit
  cost_within AB k yk kr =
      benefit_value (B (k + 1) - B k) k (omega (arith, B_last (k + 1) (omega arith) (omega arith))) yk (omega arith)
  cost_within BD k yk kr =
      rw (mul-one, ⊗-one) at
      (product (PV_factor k yk (omega arith)) (exact_part 1 (r c - y) (omega arith) (omega arith)) (numbers (B (r c))).exact_share)
  cost_within BP k yk kr =
      product (PV_factor k yk (omega arith)) (exact_part (W c k) (M c) (M_positive c sound) (W_most k yk kr)) (numbers (B (r c))).exact_share
  cost_within CD k yk kr =
      benefit y (le_refl y) (omega arith)
      (over_divisor (B (r c)) T_divisor (share_of (B (r c)) (B (r c)) (T basis y (r c)) (le_refl (B (r c))) (T_least basis y (r c) enters)))
      (numbers (B (r c))).over_T
  cost_within CP k yk kr =
      rw mul_assoc
      (product (PV_factor y (le_refl y) (omega arith)) (over_divisor (W c k * S) Z_divisor (Z_weight k))
      (weighted (B (r c)) (W c y) (W c k) (omega (arith, W_some)) (W_least k yk kr)))

  L_within : (m : Method) (k : ℕ) → y ≤ k → k ≤ r c → Within (L_limit c m) (L c m k) (L* c m k)
  unfolding L L* L_limit
  L_within AB k yk kr = benefit_value (B k) k (B_last k yk kr) yk kr
  L_within BD k yk kr =
      product (PV_factor k yk kr) (exact_part (k - y) (r c - y) (omega arith) (omega arith)) (numbers (B (r c))).exact_share
  L_within BP k yk kr =
      product (PV_factor k yk kr) (exact_part (summed (W c) y (k - y)) (M c) (M_positive c sound) (omega (arith, M_split k yk kr)))
      (numbers (B (r c))).exact_share
  L_within CD k yk kr =
      product (PV_factor k yk kr)
      (near_part (T_accuracy basis fair y k) T_divisor (T_longer basis fair y k (r c) yk kr) (T*_longer basis y k (r c) yk kr))
      (numbers (B (r c))).T_share
  L_within CP k yk kr =
      product (PV_factor k yk kr)
      (near_part (Z_accuracy basis fair y k (λ j from to. weighty j from (omega arith))) Z_divisor
      (Z_longer basis fair y k (r c) yk kr) (Z*_longer basis y k (r c) yk kr))
      (Z_share (B (r c)))

-- ---- the statements
N_limit_most : (c : Setting) → SoundSetting c → (m : Method) (k : ℕ) → N_limit c m k ≼ N_most c m k
unfolding N_limit N_most ◌over◌ whole ◌⊕◌ ◌⊗◌
N_limit_most c sound AB k = omega (arith, sound.capped)
N_limit_most c sound BD k = omega (arith, sound.capped)
N_limit_most c sound BP k = omega (arith, sound.capped)
N_limit_most c sound CD k = omega (arith, sound.capped)
N_limit_most c sound CP k = omega (arith, W_some c sound, mul-le-mul_right (W c k * W c c.y) sound.capped)

L_limit_most : (c : Setting) → SoundSetting c → (m : Method) → L_limit c m ≼ 15 over 1
unfolding L_limit ◌over◌ whole ◌⊕◌ ◌⊗◌
L_limit_most c sound AB = omega (arith, sound.capped)
L_limit_most c sound BD = omega (arith, sound.capped)
L_limit_most c sound BP = omega (arith, sound.capped)
L_limit_most c sound CD = omega (arith, sound.capped)
L_limit_most c sound CP = omega (arith, sound.capped)

-- at r both N are 0
if_below : {l : Ratio} (t : Bool) (f : ℕ) (a : Ratio) → Proper l → (Yes t → Within l f a)
    → Within l (cond t f 0) (cond t a (whole 0))
if_below true f a hl near = near tt
if_below false f a hl near = close_refl hl (whole_proper 0)

pub sharp_limits : SharpLimits
unfolding N N*
sharp_limits c sound m k yk kr =
    record {
      value = PV_close c sound k yk kr;
      cost =
          if_below (ltb k (r c)) (cost c m k) (cost* c m k) (N_limit_most c sound m k).left
          (λ below. cost_within c sound m k yk (ltb→lt k (r c) below));
      liability = L_within c sound m k yk kr;
    }

pub limits : Limits
limits c sound m k yk kr =
    let sharp = sharp_limits c sound m k yk kr in
    (apart_more sharp.cost (N_limit_most c sound m k), apart_more sharp.liability (L_limit_most c sound m))
