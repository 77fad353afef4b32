-- Sums of weights: rule 9.4, and what the code of rules 7.4 and 7.5 adds up.
use Rattle.std.specs.Prelude.{ℕ, zero, suc, ◌+◌, ◌-◌, min}
use Rattle.plan.specs.declared.Formula.{Formula}
use Rattle.plan.specs.declared.Formula.TheVariants.{Flat, Career, Final}

-- the weights of the n ages from k on, summed
unfoldable pub summed : (W : ℕ → ℕ) → ℕ → ℕ → ℕ
summed W k zero = 0
summed W k (suc n) = W k + summed W (suc k) n

-- the first of the ages before k whose pay B(k) rests on: by flat k itself, since there is none, rule 7.3; by career the entry
-- age, rule 7.4; by final the first of the last n ages, or of all where they are fewer, rule 7.5
unfoldable pub first_paid : Formula → (average entry k : ℕ) → ℕ
first_paid Flat average entry k = k
first_paid Career average entry k = entry
first_paid Final average entry k = k - min average (k - entry)
