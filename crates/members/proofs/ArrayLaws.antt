-- The array of the members: one more is stored in it, and each stands in its place.
use Prim.Native.Nat.{ℕ, zero, suc, ◌≤◌, ◌<◌}
use mathlib.Core.Path.{◌≡◌, refl, ap, ◌∙◌}
use mathlib.Core.List.{List, [], ◌∷◌, ◌++◌, map, map-append}
use lib.ListN.{length, get_or, set, replicate, length-map}
use native.Mathlib.Omega.{arith}
use Rattle.plan.specs.declared.Member.{Member}
use Rattle.plan.specs.Numbers.{member_from, numbers_of}
use Rattle.walk.specs.Lines.{most_members}
use Rattle.walk.specs.Kept.{nobody}
use Rattle.stretches.proofs.ArrayLaws.{filled_next, filled_at}
use Rattle.members.specs.Array.{array_of, member_at}

pub array_next : (l : List Member) (m : Member) {j : ℕ} → length l ≡ j → set (array_of l) j (numbers_of m) ≡ array_of (l ++ m ∷ [])
unfolding array_of
array_next l m many =
    rw (map-append numbers_of l (m ∷ [])) (filled_next most_members (replicate 5 0) (map numbers_of l) (numbers_of m) (length-map l numbers_of ∙ many))

numbers_at : (l : List Member) (j : ℕ) → j < length l → get_or (map numbers_of l) j [] ≡ numbers_of (get_or l j nobody)
numbers_at [] j h = absurd (omega arith)
numbers_at (m ∷ l) zero h = refl
numbers_at (m ∷ l) (suc j) h = numbers_at l j (omega arith)

pub array_member : (l : List Member) (j : ℕ) → j < length l → length l ≤ most_members → member_at (array_of l) j ≡ get_or l j nobody
unfolding array_of
array_member l j h few =
    let long = length-map l numbers_of in
    ap member_from (filled_at most_members (replicate 5 0) (map numbers_of l) (omega (arith, long)) j (omega (arith, long)) ∙ numbers_at l j h)
