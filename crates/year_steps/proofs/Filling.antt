-- An array that is filled from its last age down, and the one factor that it is filled with.
use mathlib.Core.Path.{◌≡◌, refl, ◌∙◌}
use mathlib.Core.List.{List, []}
use mathlib.Core.Logic.{⊎_elim}
use Prim.Native.Nat.{ℕ, ◌+◌, ◌-◌, ◌*◌, ◌≤◌, ◌<◌}
use native.Mathlib.Nat.{zero-add, eq-or-lt_of_le, mul-le-mul_right}
use native.Mathlib.Omega.{arith}
use lib.ListN.{get_or, set, replicate, length-set, get_or-replicate}
use lib.Seq.{get_or-set_same, get_or-set_other}
use Rattle.year_steps.specs.declared.Amount.{Amount}
use Rattle.year_steps.specs.declared.Amount.TheVariants.{Nothing, One, Weight}
use Rattle.rounding.specs.Nearest.{nearest}
use Rattle.rates.specs.Rates.{stays}
use Rattle.rates.specs.Table.{staying}
use Rattle.factors.specs.Basis.{Basis, Fair, basis, payable}
use Rattle.factors.specs.Factors.{S, step, pension, G}
use Rattle.year_steps.specs.Filled.{Filled, paid_of, factor}
use Rattle.factors.proofs.Carried.{carried_at, carried_before, carried_cong}
use Rattle.factors.proofs.Annuities.{annuity_most}

-- ---- the array
-- one store more, at the age before
pub filled_more : (F : ℕ → ℕ) (top k v : ℕ) {a : List ℕ} → 15 ≤ k → k < top → top ≤ 120 → v ≡ F k
    → Filled F top (k + 1) a → Filled F top k (set a (k - 15) v)
filled_more F top k v {a} low lt high e held =
    record {
      size = length-set a (k - 15) v ∙ held.size;
      upto = λ l kl lt. ⊎_elim
          (λ (q : k ≡ l). rw (← q) (get_or-set_same a (k - 15) v 0 (omega (arith, held.size)) ∙ e))
          (λ (h : k < l). get_or-set_other a (k - 15) (l - 15) v 0 (omega arith) ∙ held.upto l (omega arith) lt)
          (eq-or-lt_of_le kl);
      above = λ l tl lh. get_or-set_other a (k - 15) (l - 15) v 0 (omega arith) ∙ held.above l tl lh;
    }

-- the first store
pub filled_first : (F : ℕ → ℕ) (top v : ℕ) → 15 ≤ top → top ≤ 120 → v ≡ F top → Filled F top top (set (replicate 106 0) (top - 15) v)
filled_first F top v low high e =
    record {
      size = length-set (replicate 106 0) (top - 15) v;
      upto = λ l tl lt. let q : top ≡ l = omega arith in
          rw (← q) (get_or-set_same (replicate 106 0) (top - 15) v 0 (omega arith) ∙ e);
      above = λ l tl lh. get_or-set_other (replicate 106 0) (top - 15) (l - 15) v 0 (omega arith) ∙ get_or-replicate 106 (l - 15) 0 0 (omega arith);
    }

-- ---- the factor
-- a year's amount and step, by the row of the year's age
year_by_row : (rows : List (List ℕ)) (r i : ℕ) (amount : Amount) (k f : ℕ) {row : List ℕ} → row ≡ get_or rows (k - 15) []
    → paid_of (get_or row 3 0) amount + nearest (f * stays row r k) (100 * (10000 + i)) ≡ paid_of ((basis rows r i).W k) amount + step (basis rows r i) k f
unfolding staying step
year_by_row rows r i amount k f e = rw e refl

module _ (b : Basis) (amount : Amount) (top start : ℕ) where
  pub factor_top : factor b amount top start top ≡ start
  unfolding factor
  factor_top = carried_at _ _ top

  factor_before : (k : ℕ) → k < top
      → factor b amount top start k ≡ paid_of (b.W k) amount + step b k (factor b amount top start (k + 1))
  unfolding factor
  factor_before k h = carried_before _ _ k top h

-- so the factor of an age is a year's amount m and step g, by the age's row and the factor f of the next
pub factor_by_row : (rows : List (List ℕ)) (r i : ℕ) (amount : Amount) (top start k : ℕ) {row : List ℕ} {f m g : ℕ} → k < top
    → row ≡ get_or rows (k - 15) [] → f ≡ factor (basis rows r i) amount top start (k + 1)
    → m ≡ paid_of (get_or row 3 0) amount → g ≡ nearest (f * stays row r k) (100 * (10000 + i))
    → m + g ≡ factor (basis rows r i) amount top start k
factor_by_row rows r i amount top start k {row} {f} h own next m_is g_is =
    let b : Basis = basis rows r i in
    rw (m_is, g_is, factor_before b amount top start k h, ← next) (year_by_row rows r i amount k f own)

amount_le : (weight : ℕ) (amount : Amount) → weight ≤ 100000 → paid_of weight amount ≤ 100000 * S
unfolding paid_of
amount_le weight Nothing h = omega arith
amount_le weight One h = omega arith
amount_le weight Weight h = mul-le-mul_right S h

-- at most 106 amounts of the largest weight, and a start
pub factor_most : (b : Basis) → Fair b → (amount : Amount) (top start k : ℕ) → top ≤ 120 → 15 ≤ k → start ≤ 106 * S
    → ((j : ℕ) → 15 ≤ j → j ≤ 120 → b.W j ≤ 100000) → factor b amount top start k ≤ 107 * (100000 * S)
unfolding factor
factor_most b fair amount top start k high low st weights =
    let m = annuity_most b fair (λ j. paid_of (b.W j) amount) (100000 * S) start 1 k (top - k) (omega arith)
    (λ j from to. amount_le (b.W j) amount (weights j (omega arith) (omega arith))) in
    omega (arith, m, mul-le-mul_right {m = 1 + (top - k)} {n = 107} (100000 * S) (omega arith))

-- ---- A, T and Z are cases of it by computing, and G by a law
pub deferred_filled : (pay : ℕ) (b : Basis) {a : List ℕ} → Filled (factor b Nothing b.r (pension (payable pay b))) b.r 15 a → Filled (G (payable pay b)) b.r 15 a
unfolding factor paid_of G step
deferred_filled pay b held =
    let start : ℕ = pension (payable pay b) in
    let same : (k : ℕ) → factor b Nothing b.r start k ≡ G (payable pay b) k = λ k. carried_cong _ _ start (λ j f. zero-add (step b j f)) k (b.r - k) in
    record { size = held.size; upto = λ k low lt. held.upto k low lt ∙ same k; above = held.above }
