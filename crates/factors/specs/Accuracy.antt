-- How far each factor of RULES section 8 lies from its exact fraction (rule 10.1), in billionths. Proved in proofs/Accuracy.antt.
use Rattle.std.specs.Prelude.{ℕ, ◌-◌, ◌*◌, ◌≤◌, ◌<◌}
use Rattle.fractions.specs.Ratio.{Ratio, ◌over◌, whole, ◌⊗◌}
use Rattle.fractions.specs.Fraction.{fraction, Apart}
use Rattle.factors.specs.Basis.{Basis, Fair}
use Rattle.factors.specs.Factors.{S, A, A*, G, G*, T, T*, Z, Z*, C, C*}

-- the whole number f and the fraction a differ, either way, by the limit at most
abbrev pub Within : Ratio → ℕ → Ratio → Type 0
Within limit f a = Apart limit (fraction (whole f)) (fraction a)

-- A: half a billionth for each age from k to 120
abbrev pub AccuracyOfA : Type 0
AccuracyOfA = (b : Basis) → Fair b → (k : ℕ) → k ≤ 120 → Within ((121 - k) over 2) (A b k) (A* b k)

-- G: the same
abbrev pub AccuracyOfG : Type 0
AccuracyOfG =
    (b : Basis) → Fair b → b.r ≤ 120 → (k : ℕ) → k ≤ b.r → Within ((121 - k) over 2) (G b k) (G* b k)

-- T: one two-billionth of itself
abbrev pub AccuracyOfT : Type 0
AccuracyOfT = (b : Basis) → Fair b → (k e : ℕ) → Within (T* b k e ⊗ 1 over (2 * S)) (T b k e) (T* b k e)

-- Z, whose weights are 1000 or more: one part in two million millions of itself
abbrev pub AccuracyOfZ : Type 0
AccuracyOfZ =
    (b : Basis) → Fair b → (k e : ℕ) → ((j : ℕ) → k ≤ j → j < e → 1000 ≤ b.W j)
    → Within (Z* b k e ⊗ 1 over (2 * (1000 * S))) (Z b k e) (Z* b k e)

-- C: one two-billionth of itself
abbrev pub AccuracyOfC : Type 0
AccuracyOfC = (i m : ℕ) → Within (C* i m ⊗ 1 over (2 * S)) (C i m) (C* i m)
