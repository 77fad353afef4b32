-- A number has one quotient and one remainder by a divisor: rule 6.4.
use Rattle.std.proofs.Common.{◌≡◌, ℕ, ◌+◌, ◌*◌, ◌/◌, ◌%◌, ◌<◌, ◌≤◌, ap, mod-lt, lt_of_mul-lt-mul_right, div-add-mod', arith}
use Rattle.division.specs.declared.Division.{Division}
use Rattle.division.specs.Division.{DivisionOf}

abbrev pub pair : ℕ → ℕ → Division
pair n d = record { quotient = n / d; remainder = n % d }

pub divides : (n d : ℕ) → 0 < d → DivisionOf n d (pair n d)
divides n d h = record { same = div-add-mod' n d; less = omega (arith, mod-lt n h) }

-- of two pairs that divide n by d neither has the larger quotient
no_larger : {n d : ℕ} (s t : Division) → DivisionOf n d s → DivisionOf n d t → s.quotient ≤ t.quotient
no_larger {d = d} s t hs ht =
    omega (arith, lt_of_mul-lt-mul_right d {m = s.quotient} {n = t.quotient + 1} (omega arith))

-- so they are the same
pub same_pair : {n d : ℕ} (s t : Division) → DivisionOf n d s → DivisionOf n d t → s ≡ t
same_pair {d = d} s t hs ht =
    let quotients : s.quotient ≡ t.quotient = omega (arith, no_larger s t hs ht, no_larger t s ht hs) in
    let remainders : s.remainder ≡ t.remainder = omega (arith, ap (λ (q : ℕ). q * d) quotients) in
    λ i. record { quotient = quotients i; remainder = remainders i }
