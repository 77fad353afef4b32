-- Each total lies within the sum of its members' limits.
use mathlib.Core.List.{List, [], ◌∷◌}
use Prim.Native.Nat.{ℕ, suc, ◌<◌}
use native.Mathlib.Omega.{arith}
use lib.ListN.{length, get_or}
use Rattle.fractions.specs.Ratio.{Ratio, whole}
use Rattle.fractions.proofs.RatioLaws.{whole-⊕, whole_proper}
use Rattle.fractions.proofs.ApartLaws.{apart-⊕}
use Rattle.factors.specs.Accuracy.{Within}
use Rattle.plan.specs.declared.Plan.{Plan}
use Rattle.plan.specs.declared.Member.{Member}
use Rattle.costs.specs.declared.Figures.{Figures}
use Rattle.costs.specs.Valuation.{figures}
use Rattle.costs.proofs.Quotients.{close_refl}
use Rattle.walk.specs.Kept.{nobody}
use Rattle.totals.specs.Totals.{total, total*}

-- the limits of the members add up
pub sums_close : (p : Plan) (rows : List (List ℕ)) (figure : Figures → ℕ) (limit exact : Member → Ratio) (l : List Member) → ((j : ℕ) → j < length l → Within (limit (get_or l j nobody)) (figure (figures p rows (get_or l j nobody))) (exact (get_or l j nobody))) → Within (total* limit l) (total p rows figure l) (total* exact l)
unfolding total total*
sums_close p rows figure limit exact [] near = close_refl (whole_proper 0) (whole_proper 0)
sums_close p rows figure limit exact (m ∷ l) near =
    rw whole-⊕ at
    (apart-⊕ (whole (figure (figures p rows m))) (exact m) (whole (total p rows figure l)) (total* exact l) (near 0 (omega arith))
    (sums_close p rows figure limit exact l (λ j h. near (suc j) (omega arith))))
