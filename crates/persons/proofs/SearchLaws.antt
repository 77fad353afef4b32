-- A search: it ends at one cell, and a cell that is filled where another search ended leaves it as it is.
use Prim.Native.Nat.{ℕ, zero, suc, ◌+◌, ◌-◌, ◌*◌, ◌/◌, ◌%◌, ◌≤◌, ◌<◌}
use mathlib.Core.Path.{◌≡◌, refl, sym, ap, subst, ◌∙◌}
use mathlib.Core.List.{List}
use mathlib.Core.Bool.{Bool, true, false, ◌||◌}
use mathlib.Core.Logic.{⊎_elim}
use lib.Dec.{eqb}
use native.Mathlib.Omega.{arith}
use native.Mathlib.Nat.{mod-lt}
use borrow.Author.Tests.{eq-eqb, ne_eqb, eqb-true}
use Rattle.persons.specs.Held.{person_at}
use Rattle.persons.specs.Search.{line_in, branch, stops_at, Leads, Found, Searchable}

apart : {A : Type 0} {b : Bool} → b ≡ true → b ≡ false → A
apart on off = let z : ◌≡◌ {A = Bool} true false = sym on ∙ off in let w : ◌≡◌ {A = ℕ} 0 1 = cc in absurd (omega arith)

module _ (cells : List ℕ) (sums : List (List ℕ)) (person : ℕ) where
  -- ---- where it stops, the cell is empty or holds the person
  pub stops_empty : (cell : ℕ) → line_in cells cell ≡ 0 → stops_at cells sums person cell ≡ true
  unfolding stops_at
  stops_empty cell e = rw (eq-eqb (line_in cells cell) 0 e)

  pub stops_there : (cell j : ℕ) → line_in cells cell ≡ j + 1 → person_at sums j ≡ person → stops_at cells sums person cell ≡ true
  unfolding stops_at
  stops_there cell j e is =
      let place : line_in cells cell - 1 ≡ j = omega (arith, e) in
      rw (ne_eqb (line_in cells cell) 0 (λ none. omega (arith, e)), eq-eqb (person_at sums (line_in cells cell - 1)) person (ap (person_at sums) place ∙ is))

  -- the test of a cell that isn't empty
  pub stops_by : (cell : ℕ) {line : ℕ} → line ≡ line_in cells cell → (line ≡ 0 → ⊥) → eqb (person_at sums (line - 1)) person ≡ stops_at cells sums person cell
  unfolding stops_at
  stops_by cell is some =
      rw (ne_eqb (line_in cells cell) 0 (λ none. some (is ∙ none))) (ap (λ (k : ℕ). eqb (person_at sums (k - 1)) person) is)

  pub goes_on : (cell : ℕ) → (line_in cells cell ≡ 0 → ⊥) → (person_at sums (line_in cells cell - 1) ≡ person → ⊥) → stops_at cells sums person cell ≡ false
  unfolding stops_at
  goes_on cell some other = rw (ne_eqb (line_in cells cell) 0 some, ne_eqb (person_at sums (line_in cells cell - 1)) person other)

  pub not_empty : (cell : ℕ) → stops_at cells sums person cell ≡ false → line_in cells cell ≡ 0 → ⊥
  not_empty cell on e = apart (stops_empty cell e) on

  pub not_there : (cell : ℕ) → stops_at cells sums person cell ≡ false → person_at sums (line_in cells cell - 1) ≡ person → ⊥
  unfolding stops_at
  not_there cell on e = apart (rw (eq-eqb (person_at sums (line_in cells cell - 1)) person e) (either (eqb (line_in cells cell) 0))) on
    where
      either : (b : Bool) → (b || true) ≡ true
      either true = refl
      either false = refl

  pub stopped : (cell : ℕ) → stops_at cells sums person cell ≡ true → (line_in cells cell ≡ 0 → ⊥) → person_at sums (line_in cells cell - 1) ≡ person
  unfolding stops_at
  stopped cell on some = eqb-true _ _ (rw (ne_eqb (line_in cells cell) 0 some) at on)

  -- the cell after one at which it goes on is a higher one
  pub next_higher : Searchable cells → (cell rest : ℕ) → stops_at cells sums person cell ≡ false → (cell < branch (line_in cells cell) rest) × (branch (line_in cells cell) rest < 6098)
  next_higher s cell rest on =
      let bit : rest % 2 < 2 = mod-lt rest (omega arith) in
      let climbs : cell < 4096 + 2 * line_in cells cell = ⊎_elim (λ none. absurd (not_empty cell on none)) (λ l. l) (s.climbs cell) in
      (omega (arith, climbs), omega (arith, s.few cell, bit))

  -- ---- it ends at one cell
  leads_one : (n m cell rest one other : ℕ) → Leads cells sums person n cell rest one → Leads cells sums person m cell rest other → one ≡ other
  leads_one zero zero cell rest one other l k = sym l.0 ∙ k.0
  leads_one zero (suc m) cell rest one other l k = apart l.1 k.0
  leads_one (suc n) zero cell rest one other l k = apart k.1 l.0
  leads_one (suc n) (suc m) cell rest one other l k =
      leads_one n m (branch (line_in cells cell) rest) (rest / 2) one other l.1 k.1

  pub found_one : {one other : ℕ} → Found cells sums person one → Found cells sums person other → one ≡ other
  found_one {one} {other} f g = leads_one f.steps g.steps _ _ one other f.way g.way

  leads_stops : (n cell rest last : ℕ) → Leads cells sums person n cell rest last → stops_at cells sums person last ≡ true
  leads_stops zero cell rest last l = subst (λ (c : ℕ). stops_at cells sums person c ≡ true) l.0 l.1
  leads_stops (suc n) cell rest last l = leads_stops n _ _ last l.1

  pub found_stops : {last : ℕ} → Found cells sums person last → stops_at cells sums person last ≡ true
  found_stops {last} f = leads_stops f.steps _ _ last f.way

  -- ---- and at none beyond those of the lines so far
  leads_low : (most : ℕ) → ((cell : ℕ) → line_in cells cell ≤ most) → (n cell rest last : ℕ) → cell < 4096 + 2 * (most + 1) → Leads cells sums person n cell rest last → last < 4096 + 2 * (most + 1)
  leads_low most early zero cell rest last low l = subst (λ (c : ℕ). c < 4096 + 2 * (most + 1)) l.0 low
  leads_low most early (suc n) cell rest last low l =
      let bit : rest % 2 < 2 = mod-lt rest (omega arith) in
      leads_low most early n (branch (line_in cells cell) rest) (rest / 2) last (omega (arith, early cell, bit)) l.1

  pub found_low : (most : ℕ) → ((cell : ℕ) → line_in cells cell ≤ most) → {last : ℕ} → Found cells sums person last → last < 4096 + 2 * (most + 1)
  found_low most early {last} f =
      let home : person % 4096 < 4096 = mod-lt person (omega arith) in
      leads_low most early f.steps _ _ last (omega (arith, home)) f.way

-- ---- other cells and places, in which what was found stays
module _ (cells cells' : List ℕ) (sums sums' : List (List ℕ)) (person : ℕ) (lines : (cell : ℕ) → (line_in cells cell ≡ 0 → ⊥) → line_in cells' cell ≡ line_in cells cell) (persons : (cell : ℕ) → (line_in cells cell ≡ 0 → ⊥) → person_at sums' (line_in cells cell - 1) ≡ person_at sums (line_in cells cell - 1)) where
  still_on : (cell : ℕ) → stops_at cells sums person cell ≡ false → stops_at cells' sums' person cell ≡ false
  still_on cell on =
      let some = not_empty cells sums person cell on in
      let same = lines cell some in
      goes_on cells' sums' person cell (λ e. some (sym same ∙ e)) (λ e. not_there cells sums person cell on (sym (persons cell some) ∙ ap (λ (k : ℕ). person_at sums' (k - 1)) (sym same) ∙ e))

  leads_still : (n cell rest last : ℕ) → stops_at cells' sums' person last ≡ true → Leads cells sums person n cell rest last → Leads cells' sums' person n cell rest last
  leads_still zero cell rest last ends l = (l.0, subst (λ (c : ℕ). stops_at cells' sums' person c ≡ true) (sym l.0) ends)
  leads_still (suc n) cell rest last ends l =
      let same = lines cell (not_empty cells sums person cell l.0) in
      (still_on cell l.0, subst (λ (k : ℕ). Leads cells' sums' person n (branch k rest) (rest / 2) last) (sym same) (leads_still n (branch (line_in cells cell) rest) (rest / 2) last ends l.1))

  pub found_still : {last : ℕ} → stops_at cells' sums' person last ≡ true → Found cells sums person last → Found cells' sums' person last
  found_still {last} ends f = record { steps = f.steps; way = leads_still f.steps _ _ last ends f.way }

  -- a person who was there is still there
  pub still_there : {last : ℕ} → (line_in cells last ≡ 0 → ⊥) → Found cells sums person last → Found cells' sums' person last
  still_there {last} some f =
      let is = stopped cells sums person last (found_stops cells sums person f) some in
      let same = lines last some in
      found_still (stops_there cells' sums' person last (line_in cells last - 1) (same ∙ omega (arith, some)) (persons last some ∙ is)) f
