-- The laws of summed weights.
use Rattle.std.proofs.Common.{◌≡◌, refl, ap, ℕ, zero, suc, ◌+◌, ◌-◌, ◌*◌, ◌≤◌, ◌<◌, arith, List, [], length, get_or, take, drop, drop-cons, sum_by}
use Rattle.std.proofs.lemmas.List.Sums.{sum_by-cons}
use borrow.Rule.Slice.PartMut.{mid_of}
use Rattle.rates.specs.Table.{weight}
use Rattle.plan.specs.Weights.{summed}

module _ (W : ℕ → ℕ) where
  -- the ages may be summed in two parts
  pub summed_split : (k n d : ℕ) → summed W k (n + d) ≡ summed W k n + summed W (k + n) d
  unfolding summed
  summed_split k zero d =
      let n_is : zero + d ≡ d = omega arith in
      let k_is : k + zero ≡ k = omega arith in
      rw (n_is, k_is) (omega arith)
  summed_split k (suc n) d =
      let n_is : suc n + d ≡ suc (n + d) = omega arith in
      let k_is : k + suc n ≡ suc k + n = omega arith in
      rw (n_is, k_is) (omega (arith, summed_split (suc k) n d))

  -- one age more, at the end
  pub summed_more : (k n : ℕ) → summed W k (n + 1) ≡ summed W k n + W (k + n)
  unfolding summed
  summed_more k n = omega (arith, summed_split k n 1)

  -- n weights of w at most
  pub summed_most : (w k n : ℕ) → ((j : ℕ) → k ≤ j → j < k + n → W j ≤ w) → summed W k n ≤ n * w
  unfolding summed
  summed_most w k zero h = omega arith
  summed_most w k (suc n) h = omega (arith, h k (omega arith) (omega arith), summed_most w (suc k) n (λ j from to. h j (omega arith) (omega arith)))

  -- where the weights never fall, as many ages one year on weigh no less
  pub summed_climbs : (k n : ℕ) → ((j : ℕ) → k ≤ j → j < k + n → W j ≤ W (j + 1)) → summed W k n ≤ summed W (k + 1) n
  unfolding summed
  summed_climbs k zero climbs = omega arith
  summed_climbs k (suc n) climbs =
      let next : k + 1 ≡ suc k = omega arith in
      let after : suc k + 1 ≡ suc (suc k) = omega arith in
      let first : W k ≤ W (suc k) = rw next at (climbs k (omega arith) (omega arith)) in
      rw next (omega (arith, first, rw after at (summed_climbs (suc k) n (λ j from to. climbs j (omega arith) (omega arith)))))

-- the weights of n rows from place i on are those of the ages from 15 years later on
summed_rows : (rows : List (List ℕ)) (i n : ℕ) → i + n ≤ length rows
    → sum_by (λ row. get_or row 3 0) (take n (drop i rows)) ≡ summed (weight rows) (i + 15) n
unfolding summed
summed_rows rows i zero fits = refl
summed_rows rows i (suc n) fits =
    let here : i + 15 - 15 ≡ i = omega arith in
    let next : suc i + 15 ≡ suc (i + 15) = omega arith in
    rw (drop-cons rows i [] (omega arith), here, sum_by-cons (λ row. get_or row 3 0)) (ap (λ (s : ℕ). get_or (get_or rows i []) 3 0 + s) (rw next at (summed_rows rows (suc i) n (omega arith))))

-- and so those of the rows of the ages from a to b - 1
pub summed_part : (rows : List (List ℕ)) (a b : ℕ) → 15 ≤ a → a ≤ b → b ≤ 15 + length rows
    → sum_by (λ row. get_or row 3 0) (mid_of (a - 15) (b - 15 - (a - 15)) rows) ≡ summed (weight rows) a (b - a)
summed_part rows a b low le fits =
    let years : b - 15 - (a - 15) ≡ b - a = omega arith in
    let from : a - 15 + 15 ≡ a = omega arith in
    rw years (rw from at (summed_rows rows (a - 15) (b - a) (omega arith)))
