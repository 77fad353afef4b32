-- A line of the heading: what the code reads of it is what the walk reads of it.
use Prim.Native.Nat.{ℕ, ◌≤◌}
use mathlib.Core.Path.{◌≡◌, refl, sym, ap, ◌∙◌}
use mathlib.Core.List.{List, [], ◌∷◌}
use mathlib.Core.Bool.{Bool, true, false, cond}
use Rattle.std.specs.Prelude.{Option, Some, None, Ok, Err, nat_eq, position}
use lib.ListN.{length, take, get_or-eq_default}
use lib.Pointwise.{pointwise}
use lib.Dec.{eqb}
use native.Mathlib.Omega.{arith}
use borrow.Author.Tests.{ltb-true}
use Rattle.fields.specs.declared.Fault.{Fault}
use Rattle.fields.specs.declared.Fault.TheVariants.{Wrong, Cut}
use Rattle.fields.specs.Split.{seek_of, has_of, upto_of, same_of}
use Rattle.fields.specs.Values.{Values, misread, line_of}
use Rattle.fields.proofs.StdWords.{same_is, place_is}
use Rattle.fields.proofs.AnswerLaws.{answers_good, answers_wrong, answers_cut, answers_unread}
use Rattle.walk.specs.Terms.{term_forms, term_form}
use Rattle.heading.specs.Words.{coded, word_of}

-- the test of a word
pub word_is : (word line : List ℕ) {w : List ℕ} {b t : Bool} → w ≡ word → b ≡ pointwise nat_eq line w → b ≡ t → same_of word line ≡ t
word_is word line is tested b = sym (same_is word line) ∙ ap (pointwise nat_eq line) (sym is) ∙ sym tested ∙ b

-- ---- a word of the heading: `r` is where byte 10 was sought
record WordEnd (s : List ℕ) (e : ℕ) : Type 0 where
  has : has_of 10 s ≡ true
  place : e ≡ seek_of 10 s

module _ (s : List ℕ) {r : Option ℕ} (sought : r ≡ position (λ b. eqb b 10) s) where
  ended : {e : ℕ} → r ≡ Some e → WordEnd s e
  ended {e} is = pick (has_of 10 s) refl (sym is ∙ sought ∙ place_is 10 s)
    where
      pick : (h : Bool) → has_of 10 s ≡ h → Some e ≡ cond h (Some (seek_of 10 s)) None → WordEnd s e
      pick true has q = record { has = has; place = cc }
      pick false none q = absurd (cc)

  pub word_within : {e : ℕ} → r ≡ Some e → e ≤ length s
  unfolding has_of
  word_within is = let w = ended is in omega (arith, w.place, ltb-true (seek_of 10 s) (length s) w.has)

  pub word_cut : (method : Bool) → r ≡ None → Err Cut ≡ line_of (word_of method) s
  word_cut method is = answers_cut (word_of method) s (pick (has_of 10 s) (sym is ∙ sought ∙ place_is 10 s))
    where
      pick : (h : Bool) → None ≡ cond h (Some (seek_of 10 s)) None → h ≡ false
      pick true q = cc
      pick false q = refl

  line : (method : Bool) {e : ℕ} → r ≡ Some e → word_of method (take e s) ≡ word_of method (upto_of 10 s)
  unfolding upto_of
  line method is = ap (λ (k : ℕ). word_of method (take k s)) (ended is).place

  module _ (method : Bool) {e : ℕ} (is : r ≡ Some e) (code : Option ℕ) (read : coded code ≡ word_of method (take e s)) where
    pub word_good : {n : ℕ} → code ≡ Some n → Ok (n ∷ [], e) ≡ line_of (word_of method) s
    word_good some = let w = ended is in answers_good (word_of method) s w.has w.place (sym (line method is) ∙ sym read ∙ ap coded some)

    pub word_wrong : code ≡ None → Err Wrong ≡ line_of (word_of method) s
    word_wrong none = answers_wrong (word_of method) s (ended is).has (sym (line method is) ∙ sym read ∙ ap coded none)

-- ---- past the last term no line is one
pub no_form : (k : ℕ) (s : List ℕ) {f : Fault} → 9 ≤ k → f ≡ cond (has_of 10 s) Wrong Cut → Err f ≡ line_of (term_form k) s
unfolding term_forms
no_form k s far unread =
    answers_unread (term_form k) s (λ has. ap (λ (f : List ℕ → Values). f (upto_of 10 s)) (get_or-eq_default term_forms (λ line. misread) far)) unread
