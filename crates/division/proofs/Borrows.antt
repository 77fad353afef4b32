-- A difference of two words, for words of any size w, with a borrow b of the low words.
use Rattle.std.proofs.Common.{◌≡◌, ℕ, ◌+◌, ◌-◌, ◌*◌, ◌%◌, ◌^◌, ◌<◌, ◌≤◌, ap, lt_of_mul-lt-mul_right, arith}

pub high_le : (w wh wl mh ml b : ℕ) → mh * w + ml ≤ wh * w + wl → wl + b * w < ml + w → mh + b ≤ wh
high_le w wh wl mh ml b h l = omega (arith, lt_of_mul-lt-mul_right w {m = mh + b} {n = wh + 1} (omega arith))

pub low_same : (wl ml b r : ℕ) → (r + ml) % 2 ^ 64 ≡ wl → r < 2 ^ 64 → ml ≤ wl + b * 2 ^ 64 → wl + b * 2 ^ 64 < ml + 2 ^ 64 → r + ml ≡ wl + b * 2 ^ 64
low_same wl ml b r e hr lo hi = omega arith

pub words_same : (w wh wl mh ml b r : ℕ) → mh + b ≤ wh → r + ml ≡ wl + b * w → (wh - mh - b) * w + r + (mh * w + ml) ≡ wh * w + wl
words_same w wh wl mh ml b r h e =
    let high : wh - mh - b + mh + b ≡ wh = omega arith in
    omega (arith, ap (λ (x : ℕ). x * w) high)
