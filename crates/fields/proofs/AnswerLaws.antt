-- What a line's answer says of the bytes: for those who call the readers of lines.
use Prim.Native.Nat.{ℕ, ◌+◌, ◌<◌}
use mathlib.Core.Path.{◌≡◌, refl, sym, ap, ◌∙◌}
use mathlib.Core.List.{List}
use mathlib.Core.Bool.{Bool, true, false, cond}
use Rattle.std.specs.Prelude.{Result, Ok, Err}
use lib.ListN.{length, drop}
use borrow.Author.Tests.{ltb-true}
use Rattle.fields.specs.declared.Fault.{Fault}
use Rattle.fields.specs.declared.Fault.TheVariants.{Wrong, Cut}
use Rattle.fields.specs.Split.{seek_of, has_of, upto_of, past_of}
use Rattle.fields.specs.Values.{Values, found, misread, formed, line_of}

-- a line that there is, and the place of its byte 10
pub record GoodLine (s : List ℕ) (e : ℕ) : Type 0 where
  pub has : has_of 10 s ≡ true
  pub place : e ≡ seek_of 10 s
  pub within : e < length s
  pub rest : drop (e + 1) s ≡ past_of 10 s

pub good_line : (s : List ℕ) {e : ℕ} → has_of 10 s ≡ true → e ≡ seek_of 10 s → GoodLine s e
unfolding has_of past_of
good_line s has place =
    record {
      has = has;
      place = place;
      within = rw (← place) at (ltb-true (seek_of 10 s) (length s) has);
      rest = ap (λ (k : ℕ). drop (k + 1) s) place;
    }

-- a line of the right form, with its values
pub record ReadLine (holds : List ℕ → Values) (s vs : List ℕ) (e : ℕ) : Type 0 where
  pub line : GoodLine s e
  pub is : holds (upto_of 10 s) ≡ found vs

module _ (holds : List ℕ → Values) (s : List ℕ) {r : Result (List ℕ × ℕ) Fault} (answered : r ≡ line_of holds s) where
  pub is_cut : r ≡ Err Cut → has_of 10 s ≡ false
  unfolding line_of
  is_cut is = pick (has_of 10 s) (holds (upto_of 10 s)) (sym is ∙ answered)
    where
      pick : (h : Bool) (x : Values) → Err Cut ≡ cond h (formed x (seek_of 10 s)) (Err Cut) → h ≡ false
      pick true (found vs) e = cc
      pick true misread e = cc
      pick false x e = refl

  pub is_wrong : r ≡ Err Wrong → (has_of 10 s ≡ true) × (holds (upto_of 10 s) ≡ misread)
  unfolding line_of
  is_wrong is = pick (has_of 10 s) (holds (upto_of 10 s)) (sym is ∙ answered)
    where
      pick : (h : Bool) (x : Values) → Err Wrong ≡ cond h (formed x (seek_of 10 s)) (Err Cut) → (h ≡ true) × (x ≡ misread)
      pick true (found vs) e = absurd (cc)
      pick true misread e = (refl, refl)
      pick false x e = absurd (cc)

  pub is_good : {a : List ℕ × ℕ} → r ≡ Ok a → ReadLine holds s a.0 a.1
  unfolding line_of
  is_good {a} is =
      let p = pick (has_of 10 s) (holds (upto_of 10 s)) (sym is ∙ answered) in record { line = good_line s p.0 p.1; is = p.2 }
    where
      pick : (h : Bool) (x : Values) → Ok a ≡ cond h (formed x (seek_of 10 s)) (Err Cut) → (h ≡ true) × (a.1 ≡ seek_of 10 s) × (x ≡ found a.0)
      pick true (found vs) e = let same : a ≡ (vs, seek_of 10 s) = cc in (refl, ap (λ (b : List ℕ × ℕ). b.1) same, ap (λ (b : List ℕ × ℕ). found b.0) (sym same))
      pick true misread e = absurd (cc)
      pick false x e = absurd (cc)

-- ---- and what makes an answer
module _ (holds : List ℕ → Values) (s : List ℕ) where
  pub answers_good : {vs : List ℕ} {e : ℕ} → has_of 10 s ≡ true → e ≡ seek_of 10 s → holds (upto_of 10 s) ≡ found vs → Ok (vs, e) ≡ line_of holds s
  unfolding line_of
  answers_good has place is = rw (has, is, ← place)

  pub answers_wrong : has_of 10 s ≡ true → holds (upto_of 10 s) ≡ misread → Err Wrong ≡ line_of holds s
  unfolding line_of
  answers_wrong has is = rw (has, is)

  pub answers_cut : has_of 10 s ≡ false → Err Cut ≡ line_of holds s
  unfolding line_of
  answers_cut none = rw none

  -- a line that was not read: if it is whole its form is wrong
  pub answers_unread : {f : Fault} → (has_of 10 s ≡ true → holds (upto_of 10 s) ≡ misread) → f ≡ cond (has_of 10 s) Wrong Cut → Err f ≡ line_of holds s
  answers_unread {f} bad unread = pick (has_of 10 s) refl unread
    where
      pick : (h : Bool) → has_of 10 s ≡ h → f ≡ cond h Wrong Cut → Err f ≡ line_of holds s
      pick true has e = rw e (answers_wrong has (bad has))
      pick false has e = rw e (answers_cut has)
