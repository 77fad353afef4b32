-- What is known of an accepted member: its setting is sound, its ages lie in the table, and its factors have their sizes.
use mathlib.Core.List.{List}
use Prim.Native.Nat.{ℕ, ◌-◌, ◌*◌, ◌≤◌}
use native.Mathlib.Nat.{mul-le-mul, mul-le-mul_right}
use native.Mathlib.Omega.{arith}
use Rattle.rounding.specs.Nearest.{nearest}
use Rattle.rounding.proofs.NearestLaws.{nearest_mono, nearest_exact}
use Rattle.rates.specs.Table.{Table}
use Rattle.factors.specs.Factors.{S, G, Z}
use Rattle.factors.specs.Basis.{Fair}
use Rattle.factors.proofs.Bases.{basis_fair, payable_fair}
use Rattle.factors.proofs.Sizes.{G_most, Z_least}
use Rattle.plan.specs.declared.Plan.{Plan}
use Rattle.plan.specs.declared.Member.{Member}
use Rattle.plan.specs.Ranges.{PlanRanges, MemberRanges}
use Rattle.plan.proofs.RiseLaws.{never_falls, climbing}
use Rattle.costs.specs.Setting.{SoundSetting}
use Rattle.costs.specs.Valuation.{plan_basis, setting_of}

-- a product with a factor of 71 S at most, rounded, is 71 times the benefit at most
pub worth_most : (benefit deferred : ℕ) → deferred ≤ 71 * S → nearest (benefit * deferred) S ≤ benefit * 71
worth_most benefit deferred h =
    omega (arith, nearest_mono (benefit * deferred) (benefit * 71 * S) S (omega arith) (omega (arith, mul-le-mul {n₁ = benefit} {n₂ = benefit} (omega arith) h)), nearest_exact (benefit * 71) S (omega arith))

pub plan_fair : (p : Plan) (rows : List (List ℕ)) → Fair (plan_basis p rows)
plan_fair p rows = payable_fair _ (basis_fair rows p.retire p.interest)

module _ (p : Plan) (rows : List (List ℕ)) (m : Member) (accepted : MemberRanges p rows m) where
  pub facts : PlanRanges p rows
  facts = accepted.plan

  pub sound : SoundSetting (setting_of p rows m)
  sound =
      record {
        fair = plan_fair p rows;
        retires = facts.head.retire.0;
        in_time = facts.head.retire.1;
        grown = accepted.in_range.grown;
        enters = accepted.in_range.enters;
        weighty = λ k from to. facts.least k (omega (arith, accepted.in_range.grown)) (omega (arith, facts.head.retire.1));
        climbs = λ k from to. facts.climbs k (omega (arith, accepted.in_range.grown)) (omega (arith, facts.head.retire.1));
        capped = accepted.capped;
        rises = never_falls p rows m facts.head (climbing facts) accepted.in_range;
      }

  -- an age of its own lies in the table
  pub in_table : (k : ℕ) → m.entry ≤ k → k ≤ p.retire → (15 ≤ k) × (k ≤ 120)
  in_table k from to = (omega (arith, accepted.in_range.grown), omega (arith, facts.head.retire.1))

  -- what the factors up to it ask for
  pub workable : (k : ℕ) → m.entry ≤ k → k ≤ p.retire → Table rows × (p.interest ≤ 2000) × (15 ≤ k) × (k ≤ 120)
  workable k from to = (facts.table, facts.head.interest, (in_table k from to).0, (in_table k from to).1)

  pub G_small : (k : ℕ) → G (plan_basis p rows) k ≤ 71 * S
  G_small k =
      omega (arith, G_most (plan_basis p rows) (plan_fair p rows) k (omega (arith, facts.head.retire.1)), mul-le-mul_right {m = 121 - p.retire} {n = 71} S (omega (arith, facts.head.retire.0)))

  -- the pay annuity from entry pays 1000 at least
  pub pay_least : 1000 * S ≤ Z (plan_basis p rows) m.entry p.retire
  pay_least =
      omega (arith, Z_least (plan_basis p rows) m.entry p.retire accepted.in_range.enters, mul-le-mul_right S (facts.least m.entry accepted.in_range.grown (omega (arith, accepted.in_range.enters, facts.head.retire.1))))
