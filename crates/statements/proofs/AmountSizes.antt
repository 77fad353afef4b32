-- Every amount that is printed of an accepted case has 12 digits at most before its point.
use mathlib.Core.Path.{◌≡◌, refl}
use mathlib.Core.Bool.{Bool, true, false, cond}
use mathlib.Core.List.{List, [], ◌∷◌}
use Prim.Native.Nat.{ℕ, zero, suc, ◌-◌, ◌*◌, ◌≤◌, ◌<◌}
use native.Mathlib.Nat.{mul-le-mul_right}
use native.Mathlib.Omega.{arith}
use lib.Dec.{ltb}
use lib.ListN.{length, get_or}
use lib.IntN.{ℤ, pos, negsuc, neg_ℤ, nat_abs, ◌-ℤ◌, ◌*ℤ◌}
use Rattle.rounding.specs.Nearest.{nearest, nearest_ℤ}
use Rattle.rounding.proofs.NearestLaws.{nearest_shrinks}
use Rattle.factors.specs.Factors.{S, C}
use Rattle.factors.proofs.Sizes.{C_least}
use Rattle.plan.specs.declared.Plan.{Plan}
use Rattle.plan.specs.declared.Member.{Member}
use Rattle.plan.specs.Ranges.{MemberRanges}
use Rattle.rule_order.proofs.Facts.{plan_facts, id_small, member_facts}
use Rattle.costs.specs.declared.Figures.{Figures}
use Rattle.costs.specs.Valuation.{figures}
use Rattle.parts.proofs.FigureSizes.{SmallFigures, figures_small}
use Rattle.rule_order.proofs.ValuedLaws.{valued_is_accepted}
use Rattle.walk.specs.Walk.{valued_plan}
use Rattle.walk.specs.Kept.{nobody, id_before}
use Rattle.walk.proofs.Accepted.{accepted_keeps}
use Rattle.casefile.specs.Answers.{accepting_of}
use Rattle.totals.specs.Totals.{total, unfunded, supplemental}
use Rattle.statements.specs.Statements.{PrintedAmountsFit}

-- ---- sums
total_small : (p : Plan) (rows : List (List ℕ)) (figure : Figures → ℕ) (top : ℕ) (members : List Member) → ((j : ℕ) → j < length members → figure (figures p rows (get_or members j nobody)) ≤ top) → total p rows figure members ≤ length members * top
unfolding total
total_small p rows figure top [] each = omega arith
total_small p rows figure top (m ∷ more) each =
    omega (arith, each 0 (omega arith), total_small p rows figure top more (λ j h. each (suc j) (omega arith)))

-- ---- signed amounts
-- a difference is no larger than the larger of the two
less_size : (l a top : ℕ) → l ≤ top → a ≤ top → nat_abs (pos l -ℤ pos a) ≤ top
less_size l zero top hl ha = omega arith
less_size l (suc a) top hl ha = pick (ltb l (suc a))
  where
    pick : (t : Bool) → nat_abs (cond t (negsuc (suc a - suc l)) (pos (l - suc a))) ≤ top
    pick true = omega arith
    pick false = omega arith

neg_size : (n : ℕ) → nat_abs (neg_ℤ (pos n)) ≡ n
neg_size zero = refl
neg_size (suc n) = refl

negative_size : (n d : ℕ) → nat_abs (nearest_ℤ (neg_ℤ (pos n)) d) ≡ nearest n d
unfolding nearest_ℤ
negative_size zero d = refl
negative_size (suc n) d = neg_size (nearest (suc n) d)

-- a quotient by one S or more is no larger than what it is of
payment_size : (z : ℤ) (d : ℕ) → S ≤ d → nat_abs (nearest_ℤ (z *ℤ pos S) d) ≤ nat_abs z
unfolding nearest_ℤ
payment_size (pos n) d h = nearest_shrinks n S d (omega arith) h
payment_size (negsuc n) d h = rw (negative_size (suc n * S) d) (nearest_shrinks (suc n) S d (omega arith) h)

pub printed_amounts_fit : PrintedAmountsFit
unfolding unfunded supplemental accepting_of
printed_amounts_fit s c accepted =
    let rules = (accepted_keeps s c accepted).1 in
    let p = valued_plan c in
    let plan = valued_is_accepted c.plan c.amends c.rows rules.plan in
    let rows = c.rows in
    let members = c.members in
    let head = (plan_facts p rows plan).head in
    let kept : (j : ℕ) → j < length members → MemberRanges p rows (get_or members j nobody) = λ j h. member_facts p rows (id_before members j) (get_or members j nobody) plan (rules.member j h) in
    let small : (j : ℕ) → j < length members → SmallFigures (figures p rows (get_or members j nobody)) = λ j h. figures_small p rows (get_or members j nobody) (kept j h) in
    let value = total_small p rows (λ f. f.value) 7100000000 members (λ j h. (small j h).value) in
    let cost = total_small p rows (λ f. f.cost) 7100000050 members (λ j h. (small j h).cost) in
    let liability = total_small p rows (λ f. f.liability) 7100000000 members (λ j h. (small j h).liability) in
    let gap : nat_abs (unfunded p rows members) ≤ 99999999999999 = less_size (total p rows (λ f. f.liability) members) p.assets 99999999999999 (omega (arith, mul-le-mul_right 7100000000 rules.few)) head.assets in
    record {
      id = λ j h. omega (arith, id_small p rows (id_before members j) (get_or members j nobody) (rules.member j h));
      count = omega (arith, rules.few);
      member = λ j h.
          record {
            benefit = omega (arith, (small j h).benefit);
            value = omega (arith, (small j h).value);
            cost = omega (arith, (small j h).cost);
            liability = omega (arith, (small j h).liability);
          };
      value = omega (arith, mul-le-mul_right 7100000000 rules.few);
      cost = omega (arith, mul-le-mul_right 7100000050 rules.few);
      liability = omega (arith, mul-le-mul_right 7100000000 rules.few);
      unfunded_size = omega arith;
      supplemental_size = omega (arith, payment_size (unfunded p rows members) (C p.interest p.years) (C_least p.interest p.years head.years.0));
    }
