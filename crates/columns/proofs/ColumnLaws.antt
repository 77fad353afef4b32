-- The columns of T and Z, one more at a time.
use mathlib.Core.Path.{◌≡◌, refl, sym, ◌∙◌}
use mathlib.Core.Bool.{Bool, true, false}
use mathlib.Core.List.{List}
use Prim.Native.Nat.{ℕ, ◌-◌}
use native.Mathlib.Omega.{arith}
use lib.ListN.{length, replicate, get_or-replicate}
use Rattle.factors.specs.Basis.{Basis}
use Rattle.factors.specs.Factors.{T, Z}
use Rattle.year_steps.specs.declared.Amount.TheVariants.{One, Weight}
use Rattle.year_steps.specs.Filled.{paid_of, factor}
use Rattle.columns.specs.Columns.{FilledColumns}

-- none is marked at first
pub columns_none : (F : (k e : ℕ) → ℕ) (columns : List (List ℕ)) → length columns ≡ 61 → FilledColumns F columns (replicate 61 false)
columns_none F columns wide =
    record {
      width = wide;
      places = refl;
      filled = λ e low high marked. absurd (let z : ◌≡◌ {A = Bool} false true = sym (get_or-replicate 61 (e - 15) false false (omega arith)) ∙ marked in let zz : ◌≡◌ {A = ℕ} 0 1 = cc in omega arith);
    }

-- ---- T and Z are cases of the one factor: that of one each year, rule 8.6, and that of the age's weight, rule 8.7
pub working_is : (b : Basis) (k e : ℕ) {x : ℕ} → x ≡ factor b One e 0 k → x ≡ T b k e
unfolding factor paid_of T
working_is b k e h = h

pub pay_is : (b : Basis) (k e : ℕ) {x : ℕ} → x ≡ factor b Weight e 0 k → x ≡ Z b k e
unfolding factor paid_of Z
pay_is b k e h = h
