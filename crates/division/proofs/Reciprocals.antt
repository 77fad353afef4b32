-- What a reciprocal v of d takes off a number, and what it leaves. The first laws are of words of any size w.
use Rattle.std.proofs.Common.{◌≡◌, ℕ, ◌+◌, ◌*◌, ◌^◌, ◌<◌, ◌≤◌, le_of_lt, mul-le-mul_right, lt_of_mul-lt-mul_right, mul-le-mul_left, mul-lt-mul_of_pos_right, le_of_mul-le-mul_right, arith}
use Rattle.division.specs.declared.words.Wide.{Wide}
use Rattle.division.specs.declared.Taken.{Taken}
use Rattle.division.specs.Words.{value}
use Rattle.division.specs.Division.{Reciprocal, Short, undivided}

-- k is the whole part of l * v / w: k times d is at most l
le : (w l v d k r : ℕ) → 0 < w → v * d < w → k * w + r ≡ l * v → k * d ≤ l
le w l v d k r hw h e =
    le_of_mul-le-mul_right {m = k * d} {n = l} {k = w}
    (omega (arith, mul-le-mul_right {m = k * w} {n = l * v} d (omega arith), mul-le-mul_left l (le_of_lt h)))
    hw

-- and what that leaves of a word l is below twice d
near : (w l v d k r : ℕ) → 0 < d → l < w → r < w → w ≤ v * d + d → k * w + r ≡ l * v → l < k * d + d + d
near w l v d k r hd hl hr h e =
    lt_of_mul-lt-mul_right w {m = l} {n = k * d + d + d}
    (omega (arith, mul-le-mul_left l h, mul-lt-mul_of_pos_right {m = l * v} {n = (k + 1) * w} {k = d} (omega arith) hd, mul-lt-mul_of_pos_right hl hd))

-- of two words no more is taken than there is
two : (w high low v d k r : ℕ) → 0 < w → v * d < w → k * w + r ≡ low * v → (high * v + k) * d ≤ high * w + low
two w high low v d k r hw h e = omega (arith, le w low v d k r hw h e, mul-le-mul_left high (le_of_lt h))

module _ {d v : ℕ} (h : Reciprocal d v) where
  pub word_le : (n : ℕ) (p : Wide) → value p ≡ n * v → p.high * d ≤ n
  unfolding value
  word_le n p e = le (2 ^ 64) n v d p.high p.low (omega arith) h.below e

  pub word_near : (n : ℕ) (p : Wide) → n < 2 ^ 64 → p.low < 2 ^ 64 → value p ≡ n * v → n < p.high * d + d + d
  unfolding value
  word_near n p hn hp e = near (2 ^ 64) n v d p.high p.low (omega (arith, h.below, h.near)) hn hp h.near e

  pub taken_le : (w p : Wide) → value p ≡ w.low * v → (w.high * v + p.high) * d ≤ value w
  unfolding value
  taken_le w p e = two (2 ^ 64) w.high w.low v d p.high p.low (omega arith) h.below e

  -- and something is taken where there are two
  pub taken_some : (high k : ℕ) → d < 2 ^ 64 → 0 < high → 0 < (high * v + k) * d
  taken_some high k hd some = omega (arith, h.near, mul-le-mul_right {m = 1} {n = high} (v * d) some)

-- a quotient fits where its product does
pub quotient_fits : (q d n : ℕ) → q * d ≤ n → Short n d → q < 2 ^ 64
unfolding Short
quotient_fits q d n h l = lt_of_mul-lt-mul_right d {m = q} {n = 2 ^ 64} (omega arith)

pub high_short : (w : Wide) (d : ℕ) → w.high < d → w.low < 2 ^ 64 → Short (value w) d
unfolding Short value
high_short w d h l = omega arith

-- where one word is left
pub one_word : (d : ℕ) (t : Taken) → t.left.high ≡ 0 → undivided d t ≡ t.quotient * d + t.left.low
unfolding undivided value
one_word d t e = omega arith
