-- The sums of the members' figures.
use mathlib.Core.Path.{◌≡◌, refl, sym}
use mathlib.Core.List.{List, [], ◌∷◌, ◌++◌}
use Prim.Native.Nat.{ℕ, zero, suc, ◌+◌, ◌*◌, ◌≤◌, ◌<◌}
use native.Mathlib.Omega.{arith}
use native.Mathlib.Numerals.{add-one}
use Rattle.plan.specs.declared.Plan.{Plan}
use Rattle.plan.specs.declared.Member.{Member}
use Rattle.costs.specs.declared.Figures.{Figures}
use Rattle.costs.specs.Valuation.{figures}
use Rattle.members.specs.Array.{member_at}
use Rattle.totals.specs.Totals.{total, totals}
use Rattle.all_figures.specs.Worked.{figures_in, members_in, AreWorked}
use Rattle.totals.specs.Sums.{sum_in, sums_in}

-- ---- the sums
module _ (p : Plan) (rows : List (List ℕ)) (figure : Figures → ℕ) where
  pub total_both : (l l' : List Member) → total p rows figure (l ++ l') ≡ total p rows figure l + total p rows figure l'
  unfolding total
  total_both [] l' = omega arith
  total_both (m ∷ l) l' = omega (arith, total_both l l')

  pub total_one : (m : Member) → total p rows figure (m ∷ []) ≡ figure (figures p rows m)
  unfolding total
  total_one m = omega arith

  -- the sum over the array is the total of the members
  sum_total : (members worked : List (List ℕ)) (n : ℕ) → AreWorked p rows members worked n → sum_in figure worked n ≡ total p rows figure (members_in members n)
  unfolding sum_in members_in total
  sum_total members worked zero all = refl
  sum_total members worked (suc n) all =
      rw (sum_total members worked n (λ j h. all j (omega arith)), all n (omega arith))
      (sym (rw (total_one (member_at members n)) at (total_both (members_in members n) (member_at members n ∷ []))))

pub sums_totals : (p : Plan) (rows members worked : List (List ℕ)) (n : ℕ) → AreWorked p rows members worked n → sums_in worked n ≡ totals p rows (members_in members n)
sums_totals p rows members worked n all =
    let value = sum_total p rows (λ f. f.value) members worked n all in
    let cost = sum_total p rows (λ f. f.cost) members worked n all in
    let liability = sum_total p rows (λ f. f.liability) members worked n all in
    λ i. record { value = value i; cost = cost i; liability = liability i }

module _ (figure : Figures → ℕ) (worked : List (List ℕ)) where
  pub sum_none : 0 ≡ sum_in figure worked 0
  unfolding sum_in
  sum_none = refl

  pub sum_next : (j : ℕ) {sum : ℕ} {f : Figures} → sum ≡ sum_in figure worked j → f ≡ figures_in worked j → sum + figure f ≡ sum_in figure worked (j + 1)
  unfolding sum_in
  sum_next j so_far is = rw (so_far, is, add-one j)

  pub sum_most : (j : ℕ) → ((i : ℕ) → i < j → figure (figures_in worked i) ≤ 7100000050) → sum_in figure worked j ≤ j * 7100000050
  unfolding sum_in
  sum_most zero small = omega arith
  sum_most (suc j) small = omega (arith, sum_most j (λ i h. small i (omega arith)), small j (omega arith))

  pub sum_fits : (j count : ℕ) {sum : ℕ} {f : Figures} → j < count → count ≤ 1000 → ((i : ℕ) → i < count → figure (figures_in worked i) ≤ 7100000050) → sum ≡ sum_in figure worked j → f ≡ figures_in worked j → sum + figure f ≤ 7100000050000
  sum_fits j count {sum} {f} h few small so_far is =
      let own : figure f ≤ 7100000050 = rw is (small j h) in
      omega (arith, own, so_far, sum_most j (λ i low. small i (omega arith)))
