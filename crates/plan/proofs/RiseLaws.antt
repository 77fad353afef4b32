-- Rule 7.9, a law: the accrued benefit never falls. Weights never fall, and rounding keeps the order of what it rounds.
use mathlib.Core.Path.{◌≡◌, refl, ◌∙◌}
use mathlib.Core.Logic.{⊎_elim}
use mathlib.Core.List.{List}
use mathlib.Core.Bool.{Bool, true, false}
use Prim.Native.Nat.{ℕ, ◌+◌, ◌-◌, ◌*◌, ◌≤◌, ◌<◌, min}
use native.Mathlib.Nat.{mul-le-mul, mul-le-mul_left, mul-pos, min-eq_left, min-eq_right, eq-or-lt_of_le}
use native.Mathlib.Omega.{arith}
use borrow.Author.Tests.{leb-true, leb-false}
use lib.Dec.{leb}
use Rattle.rounding.specs.Nearest.{nearest}
use Rattle.rounding.proofs.NearestLaws.{nearest_mono, nearest_cross}
use Rattle.rates.specs.Table.{weight}
use Rattle.plan.specs.declared.Plan.{Plan}
use Rattle.plan.specs.declared.Member.{Member}
use Rattle.plan.specs.declared.Formula.{Formula}
use Rattle.plan.specs.declared.Formula.TheVariants.{Flat, Career, Final}
use Rattle.plan.specs.Weights.{summed}
use Rattle.plan.specs.Benefit.{formula_of, B}
use Rattle.plan.specs.Ranges.{HeadRanges, PlanRanges, InRange}
use Rattle.plan.specs.Rising.{Rising, Climbing, NeverFalls}
use Rattle.plan.proofs.WeightLaws.{summed_more, summed_climbs}
use Rattle.plan.proofs.BenefitLaws.{final_code, none_at_entry, flat_benefit, career_benefit, final_benefit}
use Rattle.plan.proofs.BenefitNeeds.{weight_some}

module _ (p : Plan) (rows : List (List ℕ)) (m : Member) (head : HeadRanges p) (weights : Climbing rows) (placed : InRange p m) where
  open p use {unit, average, retire}
  open m use {entry, age, salary}

  abbrev W : ℕ → ℕ
  W = weight rows

  now_some : 0 < W age
  now_some = weights.above age (omega (arith, placed.grown, placed.past_entry)) (omega (arith, placed.not_past, head.retire.1))

  -- ---- all pay so far
  abbrev of_all_pay : ℕ → ℕ
  of_all_pay k = nearest (unit * (salary * summed W entry (k - entry))) (10000 * W age)

  -- one more year's pay
  all_pay_rises : (k : ℕ) → entry ≤ k → of_all_pay k ≤ of_all_pay (k + 1)
  all_pay_rises k from =
      let more : k + 1 - entry ≡ k - entry + 1 = omega arith in
      let years : summed W entry (k - entry) ≤ summed W entry (k + 1 - entry) = rw more (omega (arith, summed_more W entry (k - entry))) in
      nearest_mono _ _ (10000 * W age) (omega (arith, now_some)) (mul-le-mul_left unit (mul-le-mul_left salary years))

  -- ---- the last n ages' pay
  module _ (final : formula_of p.formula ≡ Final) where
    averaged : 1 ≤ average
    averaged = (head.average (final_code p.formula head.formula.0 head.formula.1 final)).0

    -- as long as these are all ages since entry, the years cancel
    early : (k : ℕ) → entry < k → k - entry ≤ average → B p rows m k ≡ of_all_pay k
    early k after within =
        let n = k - entry in
        let n_is : min average n ≡ n = min-eq_right within in
        let first : k - n ≡ entry = omega arith in
        let some : 0 < n = omega arith in
        let b = final_benefit p rows m now_some k after final (rw n_is some) in
        rw (n_is, first) at b
        ∙ nearest_cross (unit * n * (salary * summed W entry n)) (10000 * (n * W age)) (unit * (salary * summed W entry n)) (10000 * W age)
        (omega (arith, mul-pos some now_some)) (omega (arith, now_some)) (omega arith)

    abbrev of_last_pay : ℕ → ℕ
    of_last_pay k = nearest (unit * (k - entry) * (salary * summed W (k - average) average)) (10000 * (average * W age))

    late : (k : ℕ) → entry < k → average ≤ k - entry → B p rows m k ≡ of_last_pay k
    late k after past =
        let n_is : min average (k - entry) ≡ average = min-eq_left past in
        rw n_is at (final_benefit p rows m now_some k after final (rw n_is averaged))

    -- a longer service, times ages that moved up by one
    last_pay_rises : (k : ℕ) → average ≤ k - entry → k < retire → of_last_pay k ≤ of_last_pay (k + 1)
    last_pay_rises k past before =
        let up : k + 1 - average ≡ k - average + 1 = omega arith in
        let ages : summed W (k - average) average ≤ summed W (k + 1 - average) average = rw up (summed_climbs W (k - average) average (λ j from to. weights.climbs j (omega (arith, placed.grown)) (omega (arith, head.retire.1)))) in
        nearest_mono _ _ (10000 * (average * W age)) (omega (arith, mul-pos averaged now_some)) (mul-le-mul (mul-le-mul_left unit (omega arith)) (mul-le-mul_left salary ages))

    final_rises : (k : ℕ) → entry < k → k < retire → (t : Bool) → leb average (k - entry) ≡ t → B p rows m k ≤ B p rows m (k + 1)
    final_rises k after before true e =
        let past = leb-true average (k - entry) e in
        rw (late k after past, late (k + 1) (omega arith) (omega arith)) (last_pay_rises k past before)
    final_rises k after before false e =
        let within = leb-false average (k - entry) e in
        rw (early k after (omega arith), early (k + 1) (omega arith) (omega arith)) (all_pay_rises k (omega arith))

  -- ---- after entry, by formula
  rises_by : (f : Formula) → formula_of p.formula ≡ f → (k : ℕ) → entry < k → k < retire → B p rows m k ≤ B p rows m (k + 1)
  rises_by Flat f k after before =
      rw (flat_benefit p rows m now_some k after f, flat_benefit p rows m now_some (k + 1) (omega arith) f) (mul-le-mul_left unit (omega arith))
  rises_by Career f k after before =
      rw (career_benefit p rows m now_some k after f, career_benefit p rows m now_some (k + 1) (omega arith) f) (all_pay_rises k (omega arith))
  rises_by Final f k after before = final_rises f k after before (leb average (k - entry)) refl

  -- nothing has accrued at entry
  rising : Rising p rows m
  rising k from before =
      ⊎_elim
      (λ (q : entry ≡ k). rw (none_at_entry p rows m now_some k (omega arith)) (omega arith))
      (λ (after : entry < k). rises_by (formula_of p.formula) refl k after before)
      (eq-or-lt_of_le from)

pub never_falls : NeverFalls
never_falls p rows m head weights placed = rising p rows m head weights placed

-- a table in its ranges has such weights
pub climbing : {p : Plan} {rows : List (List ℕ)} → PlanRanges p rows → Climbing rows
climbing ranges = record { above = weight_some ranges; climbs = ranges.climbs }
