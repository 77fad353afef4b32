-- Products of digits of 32 bits.
use Rattle.std.proofs.Common.{◌≡◌, ℕ, ◌+◌, ◌*◌, ◌/◌, ◌%◌, ◌^◌, ◌<◌, ◌≤◌, sym, ◌∙◌, mul-le-mul, lt_of_mul-lt-mul_right, div-add-mod', arith}

-- a product of two digits
digits : (x y : ℕ) → x < 2 ^ 32 → y < 2 ^ 32 → x * y ≤ 0xffff_fffe_0000_0001
digits x y hx hy = mul-le-mul {n₂ = 0xffff_ffff} {m₂ = 0xffff_ffff} (omega arith) (omega arith)

-- the four products of a digit of a and one of b
pub record Small (a b : ℕ) : Type 0 where
  pub low_low : a % 2 ^ 32 * (b % 2 ^ 32) ≤ 0xffff_fffe_0000_0001
  pub high_low : a / 2 ^ 32 * (b % 2 ^ 32) ≤ 0xffff_fffe_0000_0001
  pub low_high : a % 2 ^ 32 * (b / 2 ^ 32) ≤ 0xffff_fffe_0000_0001
  pub high_high : a / 2 ^ 32 * (b / 2 ^ 32) ≤ 0xffff_fffe_0000_0001

pub small : (a b : ℕ) → a < 2 ^ 64 → b < 2 ^ 64 → Small a b
small a b ha hb =
    record {
      low_low = digits (a % 2 ^ 32) (b % 2 ^ 32) (omega arith) (omega arith);
      high_low = digits (a / 2 ^ 32) (b % 2 ^ 32) (omega arith) (omega arith);
      low_high = digits (a % 2 ^ 32) (b / 2 ^ 32) (omega arith) (omega arith);
      high_high = digits (a / 2 ^ 32) (b / 2 ^ 32) (omega arith) (omega arith);
    }

-- a product of two numbers of two digits, in its four columns
columns : (B a b c d : ℕ) → (a * B + b) * (c * B + d) ≡ a * c * (B * B) + a * d * B + b * c * B + b * d
columns B a b c d = omega arith

pub by_columns : (a b : ℕ) → a * b ≡ a / 2 ^ 32 * (b / 2 ^ 32) * 2 ^ 64 + a / 2 ^ 32 * (b % 2 ^ 32) * 2 ^ 32 + a % 2 ^ 32 * (b / 2 ^ 32) * 2 ^ 32 + a % 2 ^ 32 * (b % 2 ^ 32)
by_columns a b =
    (λ i. sym (div-add-mod' a (2 ^ 32)) i * sym (div-add-mod' b (2 ^ 32)) i)
    ∙ columns (2 ^ 32) (a / 2 ^ 32) (a % 2 ^ 32) (b / 2 ^ 32) (b % 2 ^ 32)

-- two words times one, for words of any size w: the high words' product, with what the low words' product carries, is the high word of the whole
pub times_same : (w h l c ph pl : ℕ) → ph * w + pl ≡ l * c → (h * c + ph) * w + pl ≡ (h * w + l) * c
times_same w h l c ph pl e = omega arith

-- and it fits a word where the whole fits two
pub times_fits : (w h l c ph pl : ℕ) → ph * w + pl ≡ l * c → (h * w + l) * c < w * w → h * c + ph < w
times_fits w h l c ph pl e lt =
    lt_of_mul-lt-mul_right w {m = h * c + ph} {n = w} (omega (arith, times_same w h l c ph pl e))
