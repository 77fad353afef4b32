-- Leaving and staying: what is stated of them, from the laws of rounding.
use mathlib.Core.Bool.{Bool, true, false, cond}
use mathlib.Core.List.{List}
use Prim.Native.Nat.{ℕ, ◌-◌, ◌≤◌}
use native.Mathlib.Omega.{arith}
use borrow.Author.Tests.{lt-ltb}
use lib.Dec.{ltb}
use Rattle.rounding.proofs.NearestLaws.{nearest_shrinks}
use Rattle.rates.specs.Rates.{death, withdrawal, disability, able, serves, leaves, stays, LeavingAndStaying}

able_most : (row : List ℕ) → able row ≤ 1000000
unfolding able
able_most row =
    omega (arith, nearest_shrinks (1000000 - death row) (1000000 - disability row) 1000000 (omega arith) (omega arith))

-- nobody stays who isn't able
serves_able : (row : List ℕ) → serves row ≤ able row
unfolding serves
serves_able row = nearest_shrinks (able row) (1000000 - withdrawal row) 1000000 (omega arith) (omega arith)

cond_le : (t : Bool) (x y m : ℕ) → x ≤ m → y ≤ m → cond t x y ≤ m
cond_le true x y m hx hy = hx
cond_le false x y m hx hy = hy

pub leaving_and_staying : LeavingAndStaying
unfolding leaves stays
leaving_and_staying =
    record {
      together = λ row r k h. simp (lt-ltb k r (omega (arith, h))) (omega (arith, serves_able row));
      leaving_most = λ row. omega arith;
      able_most = λ row. omega (arith, able_most row);
      staying_most = λ row r k. cond_le (ltb k r) _ _ 1000000 (omega (arith, serves_able row, able_most row)) (omega arith);
    }
