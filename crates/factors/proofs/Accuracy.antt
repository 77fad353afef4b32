-- How far each rounded factor lies from its exact fraction.
use Prim.Native.Nat.{ℕ, ◌-◌, ◌*◌, ◌≤◌, ◌<◌}
use native.Mathlib.Nat.{le_refl, mul-le-mul_right}
use native.Mathlib.Omega.{arith}
use Rattle.fractions.specs.Ratio.{◌over◌, whole}
use Rattle.factors.specs.Basis.{Basis, Fair, certain}
use Rattle.factors.specs.Factors.{S, pension, pension*, G, G*, T, T*, Z, Z*, C, C*}
use Rattle.factors.specs.Accuracy.{AccuracyOfA, AccuracyOfG, AccuracyOfT, AccuracyOfZ, AccuracyOfC}
use Rattle.factors.proofs.Bases.{certain_fair}
use Rattle.factors.proofs.Distance.{Halves, Part, halves_more, halves_apart, part_apart}
use Rattle.factors.proofs.Annuities.{annuity_part, deferred_halves}
use Rattle.factors.proofs.Life.{A*_proper, A_halves}
use Rattle.factors.proofs.PensionLaws.{pension_halves}
use Rattle.factors.proofs.Sizes.{G*_proper, T*_proper, Z*_proper}

whole_part : (s n : ℕ) → Part s n (whole n)
unfolding whole ◌over◌
whole_part s n = omega arith

module _ (b : Basis) (fair : Fair b) where
  pub G_halves : (k : ℕ) → b.r ≤ 120 → k ≤ b.r → Halves (121 - k) (G b k) (G* b k)
  unfolding G G*
  G_halves k hr h =
      halves_more (121 - k) (omega arith)
      (deferred_halves b fair (121 - b.r) (pension b) (pension* b) k (b.r - k) (pension_halves b fair hr))

  pub T_part : (k e : ℕ) → Part S (T b k e) (T* b k e)
  unfolding T T*
  T_part k e = annuity_part b fair (λ j. S) S 0 (whole 0) k (e - k) (whole_part S 0) (λ j from to. le_refl S)

  pub Z_part : (w k e : ℕ) → ((j : ℕ) → k ≤ j → j < e → w ≤ b.W j) → Part (w * S) (Z b k e) (Z* b k e)
  unfolding Z Z*
  Z_part w k e weights =
      annuity_part b fair (λ j. b.W j * S) (w * S) 0 (whole 0) k (e - k) (whole_part (w * S) 0)
      (λ j from to. mul-le-mul_right S (weights j from (omega arith)))

pub A_accuracy : AccuracyOfA
A_accuracy b fair k h = halves_apart (A*_proper b k) (halves_more (121 - k) (omega arith) (A_halves b fair k))

pub G_accuracy : AccuracyOfG
G_accuracy b fair hr k h = halves_apart (G*_proper b k) (G_halves b fair k hr h)

pub T_accuracy : AccuracyOfT
T_accuracy b fair k e = part_apart S (omega arith) (T*_proper b k e) (T_part b fair k e)

pub Z_accuracy : AccuracyOfZ
Z_accuracy b fair k e weights = part_apart (1000 * S) (omega arith) (Z*_proper b k e) (Z_part b fair 1000 k e weights)

pub C_accuracy : AccuracyOfC
unfolding C C*
C_accuracy i m = T_accuracy (certain i) (certain_fair i) 0 m
