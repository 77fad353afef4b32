-- What the benefit's code needs: the sums of a plan's weights, and that no product passes 64 bits.
use mathlib.Core.Path.{◌≡◌, refl}
use mathlib.Core.List.{List}
use mathlib.Core.Bool.{Bool, true, false}
use borrow.Author.Tests.{leb-true, leb-false}
use lib.Dec.{leb}
use Prim.Native.Nat.{ℕ, ◌-◌, ◌*◌, ◌≤◌, ◌<◌, min}
use native.Mathlib.Nat.{le_refl, mul-le-mul, min-le_left, min-le_right, min-eq_left, min-eq_right, le_of_lt}
use native.Mathlib.Omega.{arith}
use Rattle.rates.specs.Table.{weight, Table}
use Rattle.plan.specs.declared.Plan.{Plan}
use Rattle.plan.specs.declared.Member.{Member}
use Rattle.plan.specs.declared.Formula.{Formula}
use Rattle.plan.specs.declared.Formula.TheVariants.{Flat, Career, Final}
use Rattle.plan.specs.Weights.{summed, first_paid}
use Rattle.plan.specs.Benefit.{formula_of}
use Rattle.plan.specs.Ranges.{PlanRanges, InRange}
use Rattle.plan.proofs.WeightLaws.{summed_most}

-- ---- products that fit a word
pub final_fits : (unit years salary weights : ℕ) → unit ≤ 500 → years ≤ 60 → salary ≤ 100000000 → weights ≤ 1000000 → unit * years * (salary * weights) ≤ 500 * 60 * (100000000 * 1000000)
final_fits unit years salary weights hu hy hs hw = mul-le-mul (mul-le-mul hu hy) (mul-le-mul hs hw)

-- ---- the last n ages, or all if fewer
pub record LastAges (average years n : ℕ) : Type 0 where
  pub some : 0 < n
  pub most : n ≤ 10

least_some : {a b : ℕ} (t : Bool) → leb a b ≡ t → 0 < a → 0 < b → 0 < min a b
least_some {a} {b} true e ha hb = rw (min-eq_left (leb-true a b e)) ha
least_some {a} {b} false e ha hb = rw (min-eq_right (le_of_lt (leb-false a b e))) hb

pub last_ages : (average years : ℕ) → 1 ≤ average → average ≤ 10 → 0 < years → LastAges average years (min average years)
last_ages average years low high some =
    record { some = least_some (leb average years) refl low some; most = omega (arith, min-le_left average years) }

-- ---- sums of a table's weights
module _ (rows : List (List ℕ)) (a b : ℕ) (low : 15 ≤ a) (le : a ≤ b) (high : b ≤ 120) where
  pub weights_most : Table rows → summed (weight rows) a (b - a) ≤ (b - a) * 100000
  weights_most table = summed_most (weight rows) 100000 a (b - a) (λ j from to. (table j (omega arith) (omega arith)).weight)

-- ---- the ages whose pay a benefit rests on
first_paid_among : (f : Formula) (average entry k : ℕ) → entry ≤ k → (entry ≤ first_paid f average entry k) × (first_paid f average entry k ≤ k)
unfolding first_paid
first_paid_among Flat average entry k le = (le, le_refl k)
first_paid_among Career average entry k le = (le_refl entry, le)
first_paid_among Final average entry k le = (omega (arith, min-le_right average (k - entry)), omega arith)

-- by career they are all ages from entry on
pub all_paid : {f : Formula} (average entry k : ℕ) {first : ℕ} → f ≡ Career → first ≡ first_paid f average entry k → first ≡ entry
unfolding first_paid
all_paid average entry k e first = rw e at first

-- and by final the last ones
pub last_paid : {f : Formula} (average entry k : ℕ) {first : ℕ} → f ≡ Final → first ≡ first_paid f average entry k → k - first ≡ min average (k - entry)
unfolding first_paid
last_paid average entry k e first = omega (arith, rw e at first, min-le_right average (k - entry))

-- they lie in the table
pub record PaidAges (first k : ℕ) : Type 0 where
  pub low : 15 ≤ first
  pub le : first ≤ k
  pub high : k ≤ 120

-- ---- of a plan in its ranges
module _ {p : Plan} {rows : List (List ℕ)} (ranges : PlanRanges p rows) where
  pub weight_some : (k : ℕ) → 15 ≤ k → k ≤ 120 → 0 < weight rows k
  weight_some k low high = omega (arith, ranges.least k low high)

  -- ---- and of a member of it, at an age k from entry to retirement
  module _ {m : Member} (placed : InRange p m) where
    pub age_low : 15 ≤ m.age
    age_low = omega (arith, placed.grown, placed.past_entry)

    pub age_high : m.age ≤ 120
    age_high = omega (arith, placed.not_past, ranges.head.retire.1)

    pub now_some : 0 < weight rows m.age
    now_some = weight_some m.age age_low age_high

    pub now_most : weight rows m.age ≤ 100000
    now_most = (ranges.table m.age age_low age_high).weight

    pub years_most : (k : ℕ) → k ≤ p.retire → k - m.entry ≤ 60
    years_most k h = omega (arith, placed.grown, ranges.head.retire.1)

    pub paid_ages : (k : ℕ) → m.entry ≤ k → k ≤ p.retire → {first : ℕ} → first ≡ first_paid (formula_of p.formula) p.average m.entry k → PaidAges first k
    paid_ages k from to e =
        let among = first_paid_among (formula_of p.formula) p.average m.entry k from in
        record {
          low = omega (arith, e, among.0, placed.grown);
          le = omega (arith, e, among.1);
          high = omega (arith, ranges.head.retire.1);
        }
