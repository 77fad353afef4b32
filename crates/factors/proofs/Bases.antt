-- The bases at hand are fair. How often a pension is paid is nothing to A, T and Z.
use mathlib.Core.Path.{◌≡◌, refl}
use mathlib.Core.List.{List}
use Prim.Native.Nat.{ℕ}
use native.Mathlib.Omega.{arith}
use Rattle.rates.specs.Table.{staying}
use Rattle.factors.specs.Basis.{Basis, Fair, basis, payable, certain}
use Rattle.factors.specs.Factors.{step, A, T, Z}
use Rattle.rates.proofs.Rates.{leaving_and_staying}

-- whatever the rows hold
pub basis_fair : (rows : List (List ℕ)) (r i : ℕ) → Fair (basis rows r i)
unfolding staying
basis_fair rows r i = record { stays = λ k. leaving_and_staying.staying_most _ r k }

pub payable_fair : (pay : ℕ) {b : Basis} → Fair b → Fair (payable pay b)
payable_fair pay fair = record { stays = fair.stays }

pub A_payable : (pay : ℕ) (b : Basis) → A (payable pay b) ≡ A b
unfolding A step
A_payable pay b = refl

pub T_payable : (pay : ℕ) (b : Basis) → T (payable pay b) ≡ T b
unfolding T step
T_payable pay b = refl

pub Z_payable : (pay : ℕ) (b : Basis) → Z (payable pay b) ≡ Z b
unfolding Z step
Z_payable pay b = refl

pub certain_fair : (i : ℕ) → Fair (certain i)
certain_fair i = record { stays = λ k. omega arith }
