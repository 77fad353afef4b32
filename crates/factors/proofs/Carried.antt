-- The laws of the one recursion: its two equations, and what a year keeps, all the years keep.
use mathlib.Core.Path.{◌≡◌, refl, sym, ap, ◌∙◌}
use Prim.Native.Nat.{ℕ, zero, suc, ◌+◌, ◌-◌, ◌≤◌, ◌<◌}
use native.Mathlib.Omega.{arith}
use Rattle.factors.specs.Recursion.{carried}

pub carried_at : {F : Type 0} (year : ℕ → F → F) (start : F) (e : ℕ) → carried year start e (e - e) ≡ start
unfolding carried
carried_at year start e = let none : e - e ≡ 0 = omega arith in rw none

pub carried_before : {F : Type 0} (year : ℕ → F → F) (start : F) (k e : ℕ) → k < e
    → carried year start k (e - k) ≡ year k (carried year start (k + 1) (e - (k + 1)))
unfolding carried
carried_before year start k e h =
    let more : e - k ≡ suc (e - (k + 1)) = omega arith in
    let next : suc k ≡ k + 1 = omega arith in
    rw (more, next)

-- years that do the same carry to the same
pub carried_cong : {F : Type 0} (year other : ℕ → F → F) (start : F) → ((j : ℕ) (f : F) → year j f ≡ other j f)
    → (k n : ℕ) → carried year start k n ≡ carried other start k n
unfolding carried
carried_cong year other start same k zero = refl
carried_cong year other start same k (suc n) =
    same k (carried year start (suc k) n) ∙ ap (other k) (carried_cong year other start same (suc k) n)

-- where the year does not go by the age, only the count of years matters
pub carried_still : {F : Type 0} (year : F → F) (start : F) (k l n : ℕ) → carried (λ j. year) start k n ≡ carried (λ j. year) start l n
unfolding carried
carried_still year start k l zero = refl
carried_still year start k l (suc n) = ap year (carried_still year start (suc k) (suc l) n)

-- what holds of two starts, and is kept by each year from k on, holds of what they are carried to; it may speak of the years passed
pub carried_both : {F H : Type 0} (R : ℕ → F → H → Type 0) (year : ℕ → F → F) (other : ℕ → H → H) (start : F) (begin : H)
    → R 0 start begin
    → (k n : ℕ) → ((j m : ℕ) → k ≤ j → j < k + n → (f : F) (g : H) → R m f g → R (suc m) (year j f) (other j g))
    → R n (carried year start k n) (carried other begin k n)
unfolding carried
carried_both R year other start begin first k zero keeps = first
carried_both R year other start begin first k (suc n) keeps =
    keeps k n (omega arith) (omega arith) _ _
    (carried_both R year other start begin first (suc k) n (λ j m from to. keeps j m (omega arith) (omega arith)))

-- the same of one
pub carried_each : {F : Type 0} (R : ℕ → F → Type 0) (year : ℕ → F → F) (start : F) → R 0 start
    → (k n : ℕ) → ((j m : ℕ) → k ≤ j → j < k + n → (f : F) → R m f → R (suc m) (year j f))
    → R n (carried year start k n)
carried_each R year start first k n keeps =
    carried_both (λ m f g. R m f) year year start start first k n (λ j m from to f g. keeps j m from to f)

-- the years may be passed in two parts
pub carried_split : {F : Type 0} (year : ℕ → F → F) (start : F) (k n d : ℕ)
    → carried year start k (n + d) ≡ carried year (carried year start (k + n) d) k n
unfolding carried
carried_split year start k zero d =
    let n_is : zero + d ≡ d = omega arith in
    let k_is : k + zero ≡ k = omega arith in
    rw (n_is, k_is)
carried_split year start k (suc n) d =
    let n_is : suc n + d ≡ suc (n + d) = omega arith in
    let k_is : k + suc n ≡ suc k + n = omega arith in
    ap (λ (m : ℕ). carried year start k m) n_is
    ∙ (ap (year k) (carried_split year start (suc k) n d)
    ∙ ap (λ (m : ℕ). year k (carried year (carried year start m d) (suc k) n)) (sym k_is))
