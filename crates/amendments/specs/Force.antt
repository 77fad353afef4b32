-- Amendments, rules 2.11 to 2.13: which of a list are in force, and the plan as it is valued. Nothing after acceptance knows of amendments but through
-- `as_valued`.
use Rattle.std.specs.Prelude.{◌≡◌, refl, Bool, true, false, cond, ◌&&◌, ◌||◌, List, [], ◌∷◌, ◌++◌, map, ℕ, ◌+◌, eqb}
use Rattle.rates.specs.ByHand.{Figure, ◌is◌, all_are}
use Rattle.plan.specs.declared.Plan.{Plan}
use Rattle.plan.specs.declared.Amendment.{Amendment}
use Rattle.plan.specs.Numbers.{amendment_from}

-- rules 2.11 and 5.6: amendments handed in as plain values, four numbers each
abbrev pub amendments_from : List (List ℕ) → List Amendment
amendments_from = map amendment_from

-- one of some amendments has this number
unfoldable pub listed : ℕ → List Amendment → Bool
listed n [] = false
listed n (a ∷ l) = eqb a.number n || listed n l

-- rule 2.12: it is in force where it isn't struck, and rests on none or on one that is in force; `force` are those in force before it
unfoldable pub stands : (force : List Amendment) → Amendment → Bool
stands force a = eqb a.struck 0 && (eqb a.rests 0 || listed a.rests force)

-- down the list: those in force with one more, which joins them where it stands
abbrev pub joined : (force : List Amendment) → Amendment → List Amendment
joined force a = cond (stands force a) (force ++ a ∷ []) force

unfoldable pub in_force_after : (force : List Amendment) → List Amendment → List Amendment
in_force_after force [] = force
in_force_after force (a ∷ l) = in_force_after (joined force a) l

-- the amendments of a list that are in force
abbrev pub in_force : List Amendment → List Amendment
in_force = in_force_after []

-- rule 2.13: what some amendments add, summed
unfoldable pub additions : List Amendment → ℕ
additions [] = 0
additions (a ∷ l) = a.add + additions l

-- rule 2.13, the unit valued: the heading's, and the additions in force
abbrev pub unit_valued : Plan → List Amendment → ℕ
unit_valued p l = p.unit + additions (in_force l)

-- the plan as it is valued: all else is the heading's
abbrev pub as_valued : Plan → List Amendment → Plan
as_valued p l =
    record {
      interest = p.interest;
      retire = p.retire;
      pay = p.pay;
      formula = p.formula;
      unit = unit_valued p l;
      average = p.average;
      method = p.method;
      assets = p.assets;
      years = p.years;
    }

-- ---- computed: under a unit of 100 basis points of all pay
abbrev pub hundred : Plan
hundred = record { interest = 0; retire = 65; pay = 1; formula = 2; unit = 100; average = 0; method = 1; assets = 0; years = 1 }

abbrev pub amend : (number rests add struck : ℕ) → Amendment
amend number rests add struck = record { number = number; rests = rests; add = add; struck = struck }

abbrev pub force_figures : List Figure
force_figures =
    -- no amendment; two, of which one rests on the other
    (unit_valued hundred [] is 100)
    ∷ (unit_valued hundred (amend 1 0 10 0 ∷ amend 2 1 5 0 ∷ []) is 115)
    -- the second struck; the first, which puts out both
    ∷ (unit_valued hundred (amend 1 0 10 0 ∷ amend 2 1 5 1 ∷ []) is 110)
    ∷ (unit_valued hundred (amend 1 0 10 1 ∷ amend 2 1 5 0 ∷ []) is 100)
    -- the third rests on the second, and that on the first, which is struck; the fourth on none
    ∷ (unit_valued hundred (amend 1 0 10 1 ∷ amend 2 1 5 0 ∷ amend 3 2 7 0 ∷ amend 9 0 20 0 ∷ []) is 120)
    -- two rest on the first; one of them is struck
    ∷ (unit_valued hundred (amend 4 0 10 0 ∷ amend 6 4 5 1 ∷ amend 7 4 3 0 ∷ amend 8 6 50 0 ∷ []) is 113)
    ∷ []

pub forces_are : all_are force_figures ≡ true
unfolding listed stands in_force_after additions
forces_are = refl
