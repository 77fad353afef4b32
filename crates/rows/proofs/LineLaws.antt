-- The line of a row: what the code reads of it is what the walk reads of it.
use Prim.Native.Nat.{ℕ}
use mathlib.Core.Path.{◌≡◌, refl, sym, ap, ◌∙◌}
use mathlib.Core.List.{List, [], ◌∷◌}
use mathlib.Core.Bool.{Bool, true, false, cond}
use Rattle.std.specs.Prelude.{Result, Ok, Err}
use Rattle.std.specs.Result.{IsErrAnd}
use Rattle.std.proofs.lemmas.Result.{err_from_is_err_and}
use lib.ListN.{length, get_or}
use lib.Dec.{eqb}
use native.Mathlib.Omega.{arith}
use borrow.Author.Tests.{eq-eqb, ne_eqb}
use Rattle.fields.specs.declared.Fault.{Fault}
use Rattle.fields.specs.declared.Fault.TheVariants.{Wrong, Cut}
use Rattle.fields.specs.Text.{bytes}
use Rattle.fields.specs.Split.{upto_of}
use Rattle.fields.specs.Numbers.{whole_of}
use Rattle.fields.specs.Values.{Values, found, misread, keyed_of, line_of}
use Rattle.fields.proofs.ValueLaws.{keyed_long}
use Rattle.fields.proofs.AnswerLaws.{is_good, is_wrong, is_cut, answers_good, answers_wrong, answers_cut}
use Rattle.walk.specs.Lines.{in_turn, row_form}

-- what a `?` hands on
pub handed : {A : Type 0} (r : Result A Fault) {f : Fault} → IsErrAnd r (λ g. g ≡ f) → r ≡ Err f
handed r h = let p = err_from_is_err_and r h in p.1 ∙ ap Err p.2

-- the four numbers after the age
abbrev pub four_of : (values : List ℕ) → List ℕ
four_of values = get_or values 1 0 ∷ get_or values 2 0 ∷ get_or values 3 0 ∷ get_or values 4 0 ∷ []

five : (v : List ℕ) → length v ≡ 5 → v ≡ get_or v 0 0 ∷ four_of v
five [] h = absurd (omega arith)
five (a ∷ []) h = absurd (omega arith)
five (a ∷ b ∷ []) h = absurd (omega arith)
five (a ∷ b ∷ c ∷ []) h = absurd (omega arith)
five (a ∷ b ∷ c ∷ d ∷ []) h = absurd (omega arith)
five (a ∷ b ∷ c ∷ d ∷ e ∷ []) h = refl
five (a ∷ b ∷ c ∷ d ∷ e ∷ f ∷ v) h = absurd (omega arith)

module _ (age : ℕ) (s : List ℕ) {r : Result (List ℕ × ℕ) Fault} (read : r ≡ line_of (keyed_of (bytes "row=") whole_of 4) s) where
  module _ {a : List ℕ × ℕ} (is : r ≡ Ok a) where
    size : length a.0 ≡ 5
    size = keyed_long (bytes "row=") whole_of 4 (upto_of 10 s) (is_good (keyed_of (bytes "row=") whole_of 4) s read is).is

    row : row_form age (upto_of 10 s) ≡ cond (eqb (get_or a.0 0 0) age) (found (four_of a.0)) misread
    unfolding row_form
    row =
        let g = is_good (keyed_of (bytes "row=") whole_of 4) s read is in
        ap (in_turn age) (g.is ∙ ap found (five a.0 size))

    pub row_good : get_or a.0 0 0 ≡ age → Ok (four_of a.0, a.1) ≡ line_of (row_form age) s
    row_good due =
        let g = is_good (keyed_of (bytes "row=") whole_of 4) s read is in
        answers_good (row_form age) s g.line.has g.line.place (row ∙ rw (eq-eqb _ _ due))

    pub row_other : (get_or a.0 0 0 ≡ age → ⊥) → Err Wrong ≡ line_of (row_form age) s
    row_other other =
        answers_wrong (row_form age) s (is_good (keyed_of (bytes "row=") whole_of 4) s read is).line.has (row ∙ rw (ne_eqb _ _ other))

  pub row_fault : (f : Fault) → r ≡ Err f → Err f ≡ line_of (row_form age) s
  unfolding row_form
  row_fault Wrong is =
      let w = is_wrong (keyed_of (bytes "row=") whole_of 4) s read is in
      answers_wrong (row_form age) s w.0 (ap (in_turn age) w.1)
  row_fault Cut is = answers_cut (row_form age) s (is_cut (keyed_of (bytes "row=") whole_of 4) s read is)

-- a row has four numbers
pub row_long : (age : ℕ) (line : List ℕ) {row : List ℕ} → row_form age line ≡ found row → length row ≡ 4
unfolding row_form
row_long age line e = pick (keyed_of (bytes "row=") whole_of 4 line) refl e
  where
    pick : (x : Values) → keyed_of (bytes "row=") whole_of 4 line ≡ x → {row : List ℕ} → in_turn age x ≡ found row → length row ≡ 4
    pick (found []) is e = absurd (cc)
    pick (found (a ∷ r)) is {row} e = turn (eqb a age) e
      where
        turn : (t : Bool) → cond t (found r) misread ≡ found row → length row ≡ 4
        turn true e = let same : r ≡ row = cc in ap length (sym same) ∙ omega (arith, keyed_long (bytes "row=") whole_of 4 line is)
        turn false e = absurd (cc)
    pick misread is e = absurd (cc)
