-- An integer as the code has it, a sign beside a size.
use Rattle.std.specs.Prelude.{true, false, cond, suc, ℤ, pos, negsuc, neg_ℤ}
use Rattle.rounding.specs.declared.Signed.{Signed}

-- the integer that a sign and a size make
unfoldable pub integer_of : Signed → ℤ
integer_of s = cond s.negative (neg_ℤ (pos s.size)) (pos s.size)

-- the sign and the size of an integer; zero has no sign
unfoldable pub signed : ℤ → Signed
signed (pos n) = record { negative = false; size = n }
signed (negsuc n) = record { negative = true; size = suc n }
