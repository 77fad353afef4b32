-- The array of the amendments: one more is stored in it, and its front is the list.
use Prim.Native.Nat.{ℕ, ◌≤◌}
use mathlib.Core.Path.{◌≡◌, refl, ap, ◌∙◌}
use mathlib.Core.List.{List, [], ◌∷◌, ◌++◌, map, map-append}
use lib.ListN.{length, take, set, replicate, length-map}
use native.Mathlib.Omega.{arith}
use Rattle.plan.specs.declared.Amendment.{Amendment}
use Rattle.plan.specs.Numbers.{fields_of}
use Rattle.amendments.specs.Force.{amendments_from}
use Rattle.amendments.specs.Judging.{most_amendments}
use Rattle.stretches.specs.Arrays.{filled}
use Rattle.stretches.proofs.ArrayLaws.{filled_next, filled_front, filled_size}
use Rattle.amend_lines.specs.Array.{list_array}

-- nothing is in it yet
pub list_none : replicate 20 (replicate 4 0) ≡ list_array []
unfolding list_array filled
list_none = refl

pub list_next : (l : List Amendment) (a : Amendment) {n : ℕ} → length l ≡ n → set (list_array l) n (fields_of a) ≡ list_array (l ++ a ∷ [])
unfolding list_array
list_next l a many =
    rw (map-append fields_of l (a ∷ [])) (filled_next most_amendments (replicate 4 0) (map fields_of l) (fields_of a) (length-map l fields_of ∙ many))

from_fields : (l : List Amendment) → amendments_from (map fields_of l) ≡ l
from_fields [] = refl
from_fields (a ∷ l) = ap (λ (r : List Amendment). a ∷ r) (from_fields l)

pub list_front : (l : List Amendment) {n : ℕ} → length l ≡ n → n ≤ most_amendments → amendments_from (take n (list_array l)) ≡ l
unfolding list_array
list_front l {n} many few =
    let long = length-map l fields_of in
    let place : n ≡ length (map fields_of l) = omega (arith, long) in
    rw place (ap amendments_from (filled_front most_amendments (replicate 4 0) (map fields_of l) (omega (arith, long))) ∙ from_fields l)

pub list_size : (l : List Amendment) → length (list_array l) ≡ most_amendments
unfolding list_array
list_size l = filled_size most_amendments (replicate 4 0) (map fields_of l)
