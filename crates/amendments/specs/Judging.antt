-- The rules of an amendment after those before it, and of a whole list: rules 2.11, 2.13 and 5.6, with the refusals of rule 12.3.
use Rattle.std.specs.Prelude.{◌≡◌, refl, true, ◌&&◌, ◌||◌, List, [], ◌∷◌, ◌++◌, ℕ, zero, suc, length, leb, ltb, eqb}
use Rattle.rates.specs.ByHand.{Figure, ◌is◌, all_are}
use Rattle.plan.specs.declared.Plan.{Plan}
use Rattle.plan.specs.declared.Amendment.{Amendment}
use Rattle.rules.specs.Refusals.{out_of_range, wrong_amendment, unlisted_rest, high_unit}
use Rattle.rules.specs.Rules.{unless, first_among, between}
use Rattle.rules.specs.Heading.{unit_most}
use Rattle.amendments.specs.Force.{listed, stands, in_force_after, additions, unit_valued, hundred, amend}

-- rule 2.11: at most 20 amendments
abbrev pub most_amendments : ℕ
most_amendments = 20

-- the number of the last of some, 0 where there is none
abbrev pub last_number : List Amendment → ℕ
last_number [] = 0
last_number (a ∷ []) = a.number
last_number (a ∷ b ∷ l) = last_number (b ∷ l)

-- rule 2.11, the ranges of the four fields
abbrev pub field_refusal : Amendment → ℕ
field_refusal a =
    unless (between 1 999 a.number && (leb a.rests 999 && (leb a.add 100000 && leb a.struck 1))) out_of_range

-- rule 12.4, in order: 11, a field; 53, a number that isn't above the one before, or a twenty-first; 54, a rest on a number that no earlier one has
unfoldable pub amendment_rules : (before : List Amendment) → Amendment → List ℕ
amendment_rules before a =
    field_refusal a
    ∷ unless (ltb (last_number before) a.number && ltb (length before) most_amendments) wrong_amendment
    ∷ unless (eqb a.rests 0 || listed a.rests before) unlisted_rest
    ∷ []

abbrev pub amendment_refusal : (before : List Amendment) → Amendment → ℕ
amendment_refusal before a = first_among (amendment_rules before a)

-- rule 2.13, refusal 55: the unit valued is beyond the unit's range. It is judged after the last amendment, and where there is none the heading's own
-- rule has said all
unfoldable pub unit_refusal : Plan → List Amendment → ℕ
unit_refusal p [] = 0
unit_refusal p (a ∷ l) = unless (leb (unit_valued p (a ∷ l)) (unit_most p.formula)) high_unit

-- rule 5.6, a list handed in as plain values: each amendment in turn, and then the unit valued
unfoldable pub each_refusal : (before : List Amendment) → List Amendment → ℕ
each_refusal before [] = 0
each_refusal before (a ∷ l) = first_among (amendment_refusal before a ∷ each_refusal (before ++ a ∷ []) l ∷ [])

unfoldable pub amendments_refusal : Plan → List Amendment → ℕ
amendments_refusal p l = first_among (each_refusal [] l ∷ unit_refusal p l ∷ [])

-- ---- computed
-- n amendments with the numbers from k on
abbrev pub many : (n k : ℕ) → List Amendment
many zero k = []
many (suc n) k = amend k 0 0 0 ∷ many n (suc k)

abbrev pub list_figures : List Figure
list_figures =
    (amendments_refusal hundred [] is 0)
    -- each field at its limits, and beyond them; a field goes before the order
    ∷ (amendments_refusal hundred (amend 1 0 0 0 ∷ amend 999 1 400 1 ∷ []) is 0)
    ∷ (amendments_refusal hundred (amend 0 0 0 0 ∷ []) is 11)
    ∷ (amendments_refusal hundred (amend 1000 0 0 0 ∷ []) is 11)
    ∷ (amendments_refusal hundred (amend 1 1000 0 0 ∷ []) is 11)
    ∷ (amendments_refusal hundred (amend 1 0 100001 1 ∷ []) is 11)
    ∷ (amendments_refusal hundred (amend 5 0 0 0 ∷ amend 4 0 0 2 ∷ []) is 11)
    -- a number twice; a rest on its own number, on a later one, and on a struck one, which is listed all the same
    ∷ (amendments_refusal hundred (amend 5 0 0 0 ∷ amend 5 9 0 0 ∷ []) is 53)
    ∷ (amendments_refusal hundred (amend 5 5 0 0 ∷ []) is 54)
    ∷ (amendments_refusal hundred (amend 5 6 0 0 ∷ amend 6 0 0 0 ∷ []) is 54)
    ∷ (amendments_refusal hundred (amend 5 0 0 1 ∷ amend 6 5 100000 0 ∷ []) is 0)
    -- twenty, and a twenty-first
    ∷ (amendments_refusal hundred (many 20 1) is 0)
    ∷ (amendments_refusal hundred (many 21 1) is 53)
    -- to 500 basis points, and one above; only the last unit counts, and a later fault goes before it
    ∷ (amendments_refusal hundred (amend 1 0 400 0 ∷ []) is 0)
    ∷ (amendments_refusal hundred (amend 1 0 401 0 ∷ []) is 55)
    ∷ (amendments_refusal hundred (amend 1 0 401 0 ∷ amend 1 0 0 0 ∷ []) is 53)
    ∷ []

pub lists_are : all_are list_figures ≡ true
unfolding listed stands in_force_after additions amendment_rules unit_refusal each_refusal amendments_refusal
lists_are = refl
