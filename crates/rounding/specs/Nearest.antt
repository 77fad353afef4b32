-- How everything is rounded: RULES section 6.
-- What callers may use of it is in proofs/NearestLaws.antt; that it is the sentence of rule 6.1, said without a division, is specs/HalfEven.antt.
use Rattle.std.specs.Prelude.{cond, ℕ, suc, ◌+◌, ◌*◌, ◌/◌, ◌%◌, ltb, ℤ, pos, negsuc, neg_ℤ}
use Rattle.division.specs.declared.Division.{Division}

-- rule 6.1, of q and q + 1 the even one
abbrev pub even_of : ℕ → ℕ
even_of q = q + q % 2

-- rule 6.1, from the pair of a division by d (rule 6.4): the quotient q where the remainder r is less than half of d, q + 1 where it is more than half, and where it is just half the even one of the two
abbrev pub nearest_of : Division → ℕ → ℕ
nearest_of s d =
    let q = s.quotient in
    let r = s.remainder in
    cond (ltb (2 * r) d) q (cond (ltb d (2 * r)) (q + 1) (even_of q))

-- rule 6.1, the nearest whole to n / d, and halfway the even one of two
unfoldable pub nearest : ℕ → ℕ → ℕ
nearest n d = nearest_of (record { quotient = n / d; remainder = n % d }) d

-- rule 6.2, the same below 0: the size is rounded, and the sign put back
unfoldable pub nearest_ℤ : ℤ → ℕ → ℤ
nearest_ℤ (pos n) d = pos (nearest n d)
nearest_ℤ (negsuc n) d = neg_ℤ (pos (nearest (suc n) d))
