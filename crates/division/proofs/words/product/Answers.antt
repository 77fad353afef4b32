-- `division::words::product` meets its contract.
use Rattle.std.proofs.Common.{◌≡◌, ℕ, ◌+◌, ◌*◌, ◌/◌, ◌%◌, ◌^◌, ◌<◌, ◌∙◌, arith}
use Rattle.division.specs.Words.{value}
use Rattle.division.proofs.Halves.{Small, small, by_columns}
use Rattle.division.proofs.words.product.Goals as goal
use Rattle.division.proofs.words.product.Goals.{Start}

near : (c : Start) → Small c.args.a c.args.b
near c = small c.args.a c.args.b (omega arith) (omega arith)

-- the low word, cut to 64 bits, of a sum of columns that is q * 2^64 + l
middle : (x y : ℕ) → (x % 2 ^ 32 + y % 2 ^ 32) % 2 ^ 32 ≡ (x + y) % 2 ^ 32
middle x y = omega arith

shifted : (s f q l : ℕ) → s * 2 ^ 32 + f ≡ q * 2 ^ 64 + l → l < 2 ^ 64 → (s % 2 ^ 32 * 2 ^ 32 + f) % 2 ^ 64 ≡ l
shifted s f q l e h = omega arith

low_word : (x y f : ℕ) → ((x % 2 ^ 32 + y % 2 ^ 32) % 2 ^ 32 * 2 ^ 32 + f) % 2 ^ 64 ≡ ((x + f / 2 ^ 32) % 2 ^ 32 + y) % 2 ^ 32 * 2 ^ 32 + f % 2 ^ 32
low_word x y f =
    let u : ℕ = x + f / 2 ^ 32 in
    let t : ℕ = u % 2 ^ 32 + y in
    rw (middle x y) (shifted (x + y) f (u / 2 ^ 32 + t / 2 ^ 32) (t % 2 ^ 32 * 2 ^ 32 + f % 2 ^ 32) (omega arith) (omega arith))

pub overflow_mul-first : goal.overflow_mul-first
overflow_mul-first c = omega (arith, near c)

pub overflow_mul-second : goal.overflow_mul-second
overflow_mul-second c = omega (arith, near c)

pub overflow_add-second : goal.overflow_add-second
overflow_add-second c = omega (arith, near c)

pub overflow_mul-third : goal.overflow_mul-third
overflow_mul-third c = omega (arith, near c)

pub overflow_add-third : goal.overflow_add-third
overflow_add-third c = omega (arith, near c)

pub overflow_mul-high : goal.overflow_mul-high
overflow_mul-high c = omega (arith, near c)

pub overflow_add-high : goal.overflow_add-high
overflow_add-high c = omega (arith, near c)

pub overflow_add-high-2 : goal.overflow_add-high-2
overflow_add-high-2 c = omega (arith, near c)

pub overflow_mul-middle : goal.overflow_mul-middle
overflow_mul-middle c = omega (arith, near c)

pub overflow_mul-middle-2 : goal.overflow_mul-middle-2
overflow_mul-middle-2 c = omega (arith, near c)

pub returns : goal.returns
unfolding value
returns c = let a = c.args.a in
    let b = c.args.b in
    omega (arith, by_columns a b, c.wrapping_add_u64-low.ensures.value ∙ low_word (a / 2 ^ 32 * (b % 2 ^ 32)) (a % 2 ^ 32 * (b / 2 ^ 32)) (a % 2 ^ 32 * (b % 2 ^ 32)))
