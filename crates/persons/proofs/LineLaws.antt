-- One line more: a person who comes first, and one who came before.
use Prim.Native.Nat.{ℕ, zero, suc, ◌+◌, ◌-◌, ◌*◌, ◌≤◌, ◌<◌}
use mathlib.Core.Path.{◌≡◌, refl, sym, ap, subst, ◌∙◌}
use mathlib.Core.List.{List, [], ◌∷◌}
use mathlib.Core.Bool.{Bool, true, false, cond}
use mathlib.Core.Logic.{◌⊎◌, inl, inr}
use lib.ListN.{get_or, set, replicate, length-set, length-replicate}
use lib.Seq.{get_or-set_same, get_or-set_other}
use lib.Dec.{leb, eqb}
use native.Mathlib.Omega.{arith}
use borrow.Author.Tests.{le-leb, lt-leb, eqb-true, eqb-false}
use Rattle.rules.specs.Rules.{unless}
use Rattle.persons.specs.Held.{holds_for, held, person_at, sum_at}
use Rattle.persons.specs.Search.{line_in, Found, Known, Rooted}
use Rattle.persons.proofs.HeldLaws.{held_set, held_none, held_one}
use Rattle.persons.proofs.SearchLaws.{stops_there, stopped, found_one, found_stops, found_low, found_still, still_there}

-- ---- no line yet
zeros : (n j : ℕ) → get_or {A = ℕ} (replicate n 0) j 0 ≡ 0
zeros zero j = refl
zeros (suc n) zero = refl
zeros (suc n) (suc j) = zeros n j

places_zero : (n j k : ℕ) → get_or {A = ℕ} (get_or (replicate n (0 ∷ 0 ∷ [])) j []) k 0 ≡ 0
places_zero zero j k = refl
places_zero (suc n) zero zero = refl
places_zero (suc n) zero (suc zero) = refl
places_zero (suc n) zero (suc (suc k)) = refl
places_zero (suc n) (suc j) k = places_zero n j k

pub rooted_none : Rooted (replicate 6098 0) (replicate 1000 (replicate 2 0)) 0
rooted_none =
    record {
      searchable = record {
        room = length-replicate {A = ℕ} 6098 0;
        few = λ cell. omega (arith, zeros 6098 cell);
        climbs = λ cell. inl (zeros 6098 cell);
      };
      places = length-replicate {A = List ℕ} 1000 (replicate 2 0);
      early = λ cell. omega (arith, zeros 6098 cell);
      low = λ j. omega (arith, places_zero 1000 j 1);
      blank = λ j h. (places_zero 1000 j 0, places_zero 1000 j 1);
      known = λ j some. absurd (some (places_zero 1000 j 0));
    }

-- a line that nothing is added for
pub rooted_on : {cells : List ℕ} {sums : List (List ℕ)} {n : ℕ} → Rooted cells sums n → Rooted cells sums (n + 1)
rooted_on rooted =
    record {
      searchable = rooted.searchable;
      places = rooted.places;
      early = λ cell. omega (arith, rooted.early cell);
      low = rooted.low;
      blank = λ j h. rooted.blank j (omega arith);
      known = rooted.known;
    }

-- ---- after a search
module _ {cells : List ℕ} {sums : List (List ℕ)} {n : ℕ} (rooted : Rooted cells sums n) {person : ℕ} (somebody : 1 ≤ person) {last : ℕ} (found : Found cells sums person last) where
  -- whoever has the person's number has the line of this cell
  line_of : (j : ℕ) → person_at sums j ≡ person → line_in cells last ≡ j + 1
  line_of j is =
      let k = rooted.known j (λ none. omega (arith, is)) in
      let same = found_one cells sums person (subst (λ (x : ℕ). Found cells sums x k.cell) is k.found) found in
      ap (line_in cells) (sym same) ∙ k.line

  -- ---- the person comes first
  module _ (empty : line_in cells last ≡ 0) where
    pub new_none : held sums person ≡ 0
    new_none = held_none sums person (λ j h is. omega (arith, empty, line_of j is))

  -- ---- the person came before: in the place of `line`
  module _ (line : ℕ) (is : line ≡ line_in cells last) (some : line ≡ 0 → ⊥) where
    pub person_there : person_at sums (line - 1) ≡ person
    person_there =
        ap (λ (k : ℕ). person_at sums (k - 1)) is ∙ stopped cells sums person last (found_stops cells sums person found) (λ none. some (is ∙ none))

    pub sum_there : held sums person ≡ sum_at sums (line - 1)
    sum_there =
        held_one sums (line - 1) person (omega (arith, is, some, rooted.searchable.few last, rooted.places)) person_there (λ j h at. omega (arith, is, line_of j at))

-- ---- a line more of a person who comes first: the line goes into the empty cell, and the person into the line's place
module _ {cells : List ℕ} {sums : List (List ℕ)} {n : ℕ} (rooted : Rooted cells sums n) {person : ℕ} (somebody : 1 ≤ person) {last : ℕ} (found : Found cells sums person last) (empty : line_in cells last ≡ 0) (room : n < 1000) {benefit : ℕ} (small : benefit ≤ 100000000) where
  abbrev cells' : List ℕ
  cells' = set cells last (n + 1)

  abbrev sums' : List (List ℕ)
  sums' = set sums n (person ∷ benefit ∷ [])

  last_low : last < 4096 + 2 * (n + 1)
  last_low = found_low cells sums person n rooted.early found

  here : line_in cells' last ≡ n + 1
  here = get_or-set_same cells last (n + 1) 0 (omega (arith, last_low, rooted.searchable.room))

  elsewhere : (cell : ℕ) → (cell ≡ last → ⊥) → line_in cells' cell ≡ line_in cells cell
  elsewhere cell other = get_or-set_other cells last cell (n + 1) 0 other

  lines : (cell : ℕ) → (line_in cells cell ≡ 0 → ⊥) → line_in cells' cell ≡ line_in cells cell
  lines cell some = elsewhere cell (λ e. some (ap (line_in cells) e ∙ empty))

  place : get_or sums' n [] ≡ person ∷ benefit ∷ []
  place = get_or-set_same sums n (person ∷ benefit ∷ []) [] (omega (arith, rooted.places))

  other_place : (j : ℕ) → (j ≡ n → ⊥) → get_or sums' j [] ≡ get_or sums j []
  other_place j other = get_or-set_other sums n j (person ∷ benefit ∷ []) [] other

  persons : (cell : ℕ) → (line_in cells cell ≡ 0 → ⊥) → person_at sums' (line_in cells cell - 1) ≡ person_at sums (line_in cells cell - 1)
  persons cell some =
      ap (λ (p : List ℕ). get_or p 0 0) (other_place (line_in cells cell - 1) (λ e. some (omega (arith, rooted.early cell))))

  line_small : (cell : ℕ) (b : Bool) → eqb cell last ≡ b → line_in cells' cell ≤ n + 1
  line_small cell true e = rw (eqb-true cell last e) (omega (arith, here))
  line_small cell false e = rw (elsewhere cell (eqb-false cell last e)) (omega (arith, rooted.early cell))

  line_climbs : (cell : ℕ) (b : Bool) → eqb cell last ≡ b → (line_in cells' cell ≡ 0) ⊎ (cell < 4096 + 2 * line_in cells' cell)
  line_climbs cell true e = rw (eqb-true cell last e, here) (inr last_low)
  line_climbs cell false e = rw (elsewhere cell (eqb-false cell last e)) (rooted.searchable.climbs cell)

  sum_small : (j : ℕ) (b : Bool) → eqb j n ≡ b → sum_at sums' j ≤ 100000000
  sum_small j true e = rw (eqb-true j n e, place) small
  sum_small j false e = rw (other_place j (eqb-false j n e)) (rooted.low j)

  known_new : (j : ℕ) → (person_at sums' j ≡ 0 → ⊥) → (b : Bool) → eqb j n ≡ b → Known cells' sums' j
  known_new j some true e =
      let same = eqb-true j n e in
      let is : person_at sums' n ≡ person = ap (λ (p : List ℕ). get_or p 0 0) place in
      let ends = stops_there cells' sums' person last n here is in
      record {
        cell = last;
        found = rw (same, is) (found_still cells cells' sums sums' person lines persons ends found);
        line = here ∙ ap (λ (k : ℕ). k + 1) (sym same);
      }
  known_new j some false e =
      let is : person_at sums' j ≡ person_at sums j = ap (λ (p : List ℕ). get_or p 0 0) (other_place j (eqb-false j n e)) in
      let k = rooted.known j (λ none. some (is ∙ none)) in
      let there : line_in cells k.cell ≡ 0 → ⊥ = λ none. omega (arith, k.line) in
      record {
        cell = k.cell;
        found = subst (λ (x : ℕ). Found cells' sums' x k.cell) (sym is) (still_there cells cells' sums sums' (person_at sums j) lines persons there k.found);
        line = lines k.cell there ∙ k.line;
      }

  pub new_rooted : Rooted cells' sums' (n + 1)
  new_rooted =
      record {
        searchable = record {
          room = length-set cells last (n + 1) ∙ rooted.searchable.room;
          few = λ cell. omega (arith, line_small cell (eqb cell last) refl);
          climbs = λ cell. line_climbs cell (eqb cell last) refl;
        };
        places = length-set sums n (person ∷ benefit ∷ []) ∙ rooted.places;
        early = λ cell. line_small cell (eqb cell last) refl;
        low = λ j. sum_small j (eqb j n) refl;
        blank = λ j h. rw (other_place j (λ e. omega arith)) (rooted.blank j (omega arith));
        known = λ j some. known_new j some (eqb j n) refl;
      }

  pub new_held : (other : ℕ) → held sums' other ≡ held sums other + cond (eqb person other) benefit 0
  new_held other =
      let none : holds_for other (get_or sums n []) ≡ 0 = rw (rooted.blank n (omega arith)).1 (either (eqb (person_at sums n) other)) in
      omega (arith, none, held_set sums n (person ∷ benefit ∷ []) other (omega (arith, rooted.places)))
    where
      either : (b : Bool) → cond {A = ℕ} b 0 0 ≡ 0
      either true = refl
      either false = refl

-- ---- a line more of a person who came before: the sum in the person's place grows
module _ {cells : List ℕ} {sums : List (List ℕ)} {n : ℕ} (rooted : Rooted cells sums n) {person : ℕ} (somebody : 1 ≤ person) {last : ℕ} (found : Found cells sums person last) (line : ℕ) (is : line ≡ line_in cells last) (some : line ≡ 0 → ⊥) {sum : ℕ} (benefit : ℕ) (more : sum ≡ sum_at sums (line - 1) + benefit) (small : sum ≤ 100000000) where
  abbrev first : ℕ
  first = line - 1

  abbrev grown : List (List ℕ)
  grown = set sums first (person ∷ sum ∷ [])

  before : first < n
  before = omega (arith, is, rooted.early last, some)

  grown_place : get_or grown first [] ≡ person ∷ sum ∷ []
  grown_place = get_or-set_same sums first (person ∷ sum ∷ []) [] (omega (arith, is, rooted.searchable.few last, some, rooted.places))

  as_before : (j : ℕ) → (j ≡ first → ⊥) → get_or grown j [] ≡ get_or sums j []
  as_before j other = get_or-set_other sums first j (person ∷ sum ∷ []) [] other

  same_person : (j : ℕ) (b : Bool) → eqb j first ≡ b → person_at grown j ≡ person_at sums j
  same_person j true e = rw (eqb-true j first e, grown_place) (sym (person_there rooted somebody found line is some))
  same_person j false e = ap (λ (p : List ℕ). get_or p 0 0) (as_before j (eqb-false j first e))

  grown_small : (j : ℕ) (b : Bool) → eqb j first ≡ b → sum_at grown j ≤ 100000000
  grown_small j true e = rw (eqb-true j first e, grown_place) small
  grown_small j false e = rw (as_before j (eqb-false j first e)) (rooted.low j)

  known_still : (j : ℕ) → (person_at grown j ≡ 0 → ⊥) → Known cells grown j
  known_still j somebody =
      let is = same_person j (eqb j first) refl in
      let k = rooted.known j (λ none. somebody (is ∙ none)) in
      record {
        cell = k.cell;
        found = subst (λ (x : ℕ). Found cells grown x k.cell) (sym is) (still_there cells cells sums grown (person_at sums j) (λ cell some. refl) (λ cell some. same_person (line_in cells cell - 1) (eqb (line_in cells cell - 1) first) refl) (λ none. omega (arith, k.line)) k.found);
        line = k.line;
      }

  pub later_rooted : Rooted cells grown (n + 1)
  later_rooted =
      record {
        searchable = rooted.searchable;
        places = length-set sums first (person ∷ sum ∷ []) ∙ rooted.places;
        early = λ cell. omega (arith, rooted.early cell);
        low = λ j. grown_small j (eqb j first) refl;
        blank = λ j h. rw (as_before j (λ e. omega (arith, before))) (rooted.blank j (omega arith));
        known = known_still;
      }

  pub later_held : (other : ℕ) → held grown other ≡ held sums other + cond (eqb person other) benefit 0
  later_held other =
      let old : holds_for other (get_or sums first []) ≡ cond (eqb person other) (sum_at sums first) 0 = rw (person_there rooted somebody found line is some) in
      pick (eqb person other) (rw old at (held_set sums first (person ∷ sum ∷ []) other (omega (arith, is, rooted.searchable.few last, some, rooted.places))))
    where
      pick : (b : Bool) → held grown other + cond b (sum_at sums first) 0 ≡ held sums other + cond b sum 0 → held grown other ≡ held sums other + cond b benefit 0
      pick true e = omega (arith, e, more)
      pick false e = omega (arith, e)

-- ---- what `add` answers: the sum within its ceiling and the line taken up, or the sum above it
abbrev Adds : (cells : List ℕ) (sums : List (List ℕ)) (n person benefit : ℕ) (cells' : List ℕ) (sums' : List (List ℕ)) → Type 0
Adds cells sums n person benefit cells' sums' =
    (0 ≡ unless (leb (held sums person + benefit) 100000000) 29) × (Rooted cells' sums' (n + 1) × ((other : ℕ) → held sums' other ≡ held sums other + cond (eqb person other) benefit 0))

module _ {cells : List ℕ} {sums : List (List ℕ)} {n : ℕ} (rooted : Rooted cells sums n) {person : ℕ} (somebody : 1 ≤ person) {last : ℕ} (found : Found cells sums person last) (benefit : ℕ) where
  abbrev line : ℕ
  line = line_in cells last

  pub adds_new : line ≡ 0 → n < 1000 → benefit ≤ 100000000 → Adds cells sums n person benefit (set cells last (n + 1)) (set sums n (person ∷ benefit ∷ []))
  adds_new empty room small = (
    rw (new_none rooted somebody found empty, le-leb (0 + benefit) 100000000 (omega arith)) refl,
    (new_rooted rooted somebody found empty room small, new_held rooted somebody found empty room small),
  )

  module _ (some : line ≡ 0 → ⊥) where
    abbrev sum : ℕ
    sum = sum_at sums (line - 1) + benefit

    pub adds_over : 100000000 < sum → 29 ≡ unless (leb (held sums person + benefit) 100000000) 29
    adds_over over = rw (sum_there rooted somebody found line refl some, lt-leb sum 100000000 over) refl

    pub adds_later : sum ≤ 100000000 → Adds cells sums n person benefit cells (set sums (line - 1) (person ∷ sum ∷ []))
    adds_later small = (
      rw (sum_there rooted somebody found line refl some, le-leb sum 100000000 small) refl,
      (later_rooted rooted somebody found line refl some benefit refl small, later_held rooted somebody found line refl some benefit refl small),
    )
