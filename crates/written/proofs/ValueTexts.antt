-- The values of a line and their text: what is written is read back, and nothing else is read as it.
use mathlib.Core.Path.{◌≡◌, refl, sym, ap, ◌∙◌}
use mathlib.Core.Bool.{Bool, true, false, cond}
use mathlib.Core.List.{List, [], ◌∷◌, ◌++◌, append-nil}
use Prim.Native.Nat.{ℕ, zero, suc, ◌<◌}
use native.Mathlib.Omega.{arith}
use lib.ListN.{length, get_or, drop}
use borrow.Author.Tests.{eq-eqb}
use Rattle.fields.specs.Split.{has_of, upto_of, past_of, starts_of}
use Rattle.fields.specs.Numbers.{Number, value, malformed, whole_of, amount_of}
use Rattle.fields.specs.Values.{Values, found, misread, before, values_of, keyed_of}
use Rattle.fields.proofs.SplitLaws.{after, here, cut}
use Rattle.fields.proofs.FieldLaws.{lacks_digits}
use Rattle.fields.proofs.KeyLaws.{starts_split, drop_key}
use Rattle.printing.specs.Amounts.{whole_number, amount}
use Rattle.number_texts.proofs.ReadBack.{all_digits_lem, wholes_read_back, amounts_read_back}
use Rattle.number_texts.proofs.OneText.{wholes_have_one_text, wholes_are_themselves, amounts_have_one_text, amounts_are_themselves}

pub none_found : {A : Type 0} {vs : List ℕ} → misread ≡ found vs → A
none_found e = let z : ◌≡◌ {A = ℕ} 0 1 = cc in absurd (omega arith)

pub found_one : {vs us : List ℕ} → found vs ≡ found us → vs ≡ us
found_one e = cc

-- ---- a value: read by `last`, printed by `show`; below `most` it is read back
pub record Kind (last : List ℕ → Number) (show : ℕ → List ℕ) (most : ℕ) : Type 0 where
  pub back : (v : ℕ) → v < most → last (show v) ≡ value v
  pub one : (s : List ℕ) (v : ℕ) → last s ≡ value v → s ≡ show v
  pub self : (v u : ℕ) → last (show v) ≡ value u → u ≡ v

pub wholes : Kind whole_of whole_number 1000000000000
wholes = record { back = wholes_read_back; one = wholes_have_one_text; self = wholes_are_themselves }

pub amounts : Kind amount_of amount 100000000000000
amounts = record { back = amounts_read_back; one = amounts_have_one_text; self = amounts_are_themselves }

-- ---- n whole numbers, a comma after each, and a last value
abbrev pub texts : (show : ℕ → List ℕ) → (n : ℕ) → List ℕ → List ℕ
texts show zero vs = show (get_or vs 0 0)
texts show (suc n) [] = []
texts show (suc n) (v ∷ vs) = whole_number v ++ 44 ∷ texts show n vs

-- they are as small as those that are read
abbrev pub Small : (most n : ℕ) → List ℕ → Type 0
Small most zero vs = get_or vs 0 0 < most
Small most (suc n) [] = ⊥
Small most (suc n) (v ∷ vs) = (v < 1000000000000) × Small most n vs

-- the first of them, and those after its comma
record Headed (v : ℕ) (t : List ℕ) : Type 0 where
  has : has_of 44 (whole_number v ++ 44 ∷ t) ≡ true
  upto : upto_of 44 (whole_number v ++ 44 ∷ t) ≡ whole_number v
  past : past_of 44 (whole_number v ++ 44 ∷ t) ≡ t

first_among : (v : ℕ) (t : List ℕ) → Headed v t
first_among v t =
    let f = after 44 (whole_number v) (44 ∷ t) (lacks_digits 44 (whole_number v) (omega arith) (all_digits_lem v)) in
    let g = here 44 t in
    record { has = f.has ∙ g.has; upto = f.upto ∙ rw g.upto (append-nil (whole_number v)); past = f.past ∙ g.past }

-- a number before the others was read
record Joined (x : Number) (y : Values) (vs : List ℕ) : Type 0 where
  first : ℕ
  others : List ℕ
  is_first : x ≡ value first
  are_others : y ≡ found others
  all : vs ≡ first ∷ others

joined : (x : Number) (y : Values) (vs : List ℕ) → before x y ≡ found vs → Joined x y vs
joined (value v) (found us) vs e = record { first = v; others = us; is_first = refl; are_others = refl; all = sym (found_one e) }
joined (value v) misread vs e = none_found e
joined malformed y vs e = none_found e

module _ {last : List ℕ → Number} {show : ℕ → List ℕ} {most : ℕ} (kind : Kind last show most) where
  -- what is read is a text of as many values
  pub values_text : (n : ℕ) (s vs : List ℕ) → values_of last n s ≡ found vs → (s ≡ texts show n vs) × (length vs ≡ suc n)
  unfolding values_of
  values_text zero s vs e =
      let j = joined (last s) (found []) vs e in
      let none : [] ≡ j.others = found_one j.are_others in
      let is : vs ≡ j.first ∷ [] = j.all ∙ ap (λ (u : List ℕ). j.first ∷ u) (sym none) in
      (rw is (kind.one s j.first j.is_first), rw is)
  values_text (suc n) s vs e = pick (has_of 44 s) refl (values_text n (past_of 44 s)) e
    where
      pick : (b : Bool) → has_of 44 s ≡ b → ((us : List ℕ) → values_of last n (past_of 44 s) ≡ found us → (past_of 44 s ≡ texts show n us) × (length us ≡ suc n)) → cond b (before (whole_of (upto_of 44 s)) (values_of last n (past_of 44 s))) misread ≡ found vs → (s ≡ texts show (suc n) vs) × (length vs ≡ suc (suc n))
      pick false h on e = none_found e
      pick true h on e =
          let j = joined (whole_of (upto_of 44 s)) (values_of last n (past_of 44 s)) vs e in
          let later = on j.others j.are_others in
          let first = wholes.one (upto_of 44 s) j.first j.is_first in
          rw j.all ((cut 44 s h).is ∙ (λ i. first i ++ 44 ∷ later.0 i), omega (arith, later.1))

  -- what is written of small values is read back
  pub text_values : (n : ℕ) (vs : List ℕ) → length vs ≡ suc n → Small most n vs → values_of last n (texts show n vs) ≡ found vs
  unfolding values_of
  text_values zero [] long small = absurd (omega arith)
  text_values zero (v ∷ w ∷ vs) long small = absurd (omega arith)
  text_values zero (v ∷ []) long small = rw (kind.back v small)
  text_values (suc n) [] long small = absurd small
  text_values (suc n) (v ∷ vs) long small =
      let f = first_among v (texts show n vs) in
      rw (f.has, f.upto, f.past, wholes.back v small.0, text_values n vs (omega arith) small.1)

  -- and of any values as no others
  pub text_self : (n : ℕ) (vs us : List ℕ) → length vs ≡ suc n → values_of last n (texts show n vs) ≡ found us → us ≡ vs
  unfolding values_of
  text_self zero [] us long e = absurd (omega arith)
  text_self zero (v ∷ w ∷ vs) us long e = absurd (omega arith)
  text_self zero (v ∷ []) us long e =
      let j = joined (last (show v)) (found []) us e in
      let none : [] ≡ j.others = found_one j.are_others in
      let same = kind.self v j.first j.is_first in
      j.all ∙ rw (same, ← none)
  text_self (suc n) [] us long e = absurd (omega arith)
  text_self (suc n) (v ∷ vs) us long e =
      let f = first_among v (texts show n vs) in
      let j = joined (whole_of (whole_number v)) (values_of last n (texts show n vs)) us (rw (f.has, f.upto, f.past) at e) in
      j.all ∙ rw (wholes.self v j.first j.is_first, text_self n vs j.others (omega arith) j.are_others)

  -- ---- after a key
  module _ (key : List ℕ) (n : ℕ) where
    pub keyed_text : (s vs : List ℕ) → keyed_of key last n s ≡ found vs → (s ≡ key ++ texts show n vs) × (length vs ≡ suc n)
    unfolding keyed_of
    keyed_text s vs e = pick (starts_of key s) refl e
      where
        pick : (b : Bool) → starts_of key s ≡ b → cond b (values_of last n (drop (length key) s)) misread ≡ found vs → (s ≡ key ++ texts show n vs) × (length vs ≡ suc n)
        pick false h e = none_found e
        pick true h e =
            let t = values_text n (drop (length key) s) vs e in (starts_split key s h ∙ ap (λ (r : List ℕ). key ++ r) t.0, t.1)

    after_key : (t : List ℕ) → keyed_of key last n (key ++ t) ≡ values_of last n t
    unfolding keyed_of
    after_key t = rw (starts_itself key t, drop_key key t)
      where
        starts_itself : (key t : List ℕ) → starts_of key (key ++ t) ≡ true
        starts_itself [] t = refl
        starts_itself (k ∷ key) t = simp (eq-eqb k k refl) (starts_itself key t)

    pub text_keyed : (vs : List ℕ) → length vs ≡ suc n → Small most n vs → keyed_of key last n (key ++ texts show n vs) ≡ found vs
    text_keyed vs long small = after_key (texts show n vs) ∙ text_values n vs long small

    pub keyed_self : (vs us : List ℕ) → length vs ≡ suc n → keyed_of key last n (key ++ texts show n vs) ≡ found us → us ≡ vs
    keyed_self vs us long e = text_self n vs us long (sym (after_key (texts show n vs)) ∙ e)
