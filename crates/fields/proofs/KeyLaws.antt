-- A line's key: where the bytes begin with it the line does, and its values follow.
use Prim.Native.Nat.{ℕ, ◌+◌}
use mathlib.Core.Path.{◌≡◌, refl, sym, ap, ◌∙◌}
use mathlib.Core.List.{List, [], ◌∷◌, ◌++◌}
use mathlib.Core.Bool.{Bool, true, false, cond, ◌&&◌}
use lib.ListN.{length, drop}
use lib.Dec.{eqb}
use borrow.Author.Tests.{eqb-true, ne_eqb, eqb-false}
use Rattle.std.specs.Prelude.{Option, Some, None, Ok, Err}
use Rattle.fields.specs.declared.Fault.{Fault}
use Rattle.fields.specs.declared.Fault.TheVariants.{Wrong, Cut}
use Rattle.fields.specs.Split.{seek_of, has_of, upto_of, starts_of}
use Rattle.fields.specs.Numbers.{Number}
use Rattle.fields.specs.Values.{Values, found, misread, values_of, keyed_of, ended, values_at, line_of}
use Rattle.fields.proofs.SplitLaws.{off, and_true_left, and_true_right, lacks, lacks_more, lacks_has, after}
use Rattle.fields.proofs.AnswerLaws.{answers_good, answers_unread}

-- a key that s begins with, and the rest
pub starts_split : (key s : List ℕ) → starts_of key s ≡ true → s ≡ key ++ drop (length key) s
starts_split [] s e = refl
starts_split (k ∷ key) [] e = off (sym e)
starts_split (k ∷ key) (x ∷ s) e =
    let first : x ≡ k = eqb-true x k (and_true_left (eqb x k) (starts_of key s) e) in
    let rest = starts_split key s (and_true_right (eqb x k) (starts_of key s) e) in
    λ i. first i ∷ rest i

pub drop_key : (key r : List ℕ) → drop (length key) (key ++ r) ≡ r
drop_key [] r = refl
drop_key (k ∷ key) r = drop_key key r

-- the line begins with what the bytes begin with
pub starts_line : (key s : List ℕ) → lacks 10 key ≡ true → starts_of key (upto_of 10 s) ≡ starts_of key s
unfolding upto_of
starts_line [] s free = refl
starts_line (k ∷ key) [] free = refl
starts_line (k ∷ key) (x ∷ s) free =
    let l = lacks_more 10 k key free in pick (eqb x 10) refl l.0 (starts_line key s l.1)
  where
    pick : (t : Bool) → eqb x 10 ≡ t → eqb k 10 ≡ false → starts_of key (upto_of 10 s) ≡ starts_of key s → starts_of (k ∷ key) (upto_of 10 (x ∷ s)) ≡ starts_of (k ∷ key) (x ∷ s)
    pick true is other on =
        let ten = eqb-true x 10 is in
        simp is (rw (ne_eqb x k (λ e. eqb-false k 10 other (sym e ∙ ten))))
    pick false is other on = simp is (ap (λ (t : Bool). eqb x k && t) on)

-- the line that s begins with: its key, and the values after it
module _ (key : List ℕ) (last : List ℕ → Number) (n : ℕ) (s : List ℕ) (short : has_of 10 key ≡ false) {b : Bool} (tested : b ≡ starts_of key s) where
  -- after the key
  record Keyed : Type 0 where
    way : keyed_of key last n (upto_of 10 s) ≡ values_of last n (upto_of 10 (drop (length key) s))
    has : has_of 10 s ≡ has_of 10 (drop (length key) s)
    seek : seek_of 10 s ≡ length key + seek_of 10 (drop (length key) s)

  keyed : b ≡ true → Keyed
  unfolding keyed_of
  keyed on =
      let free = lacks_has 10 key short in
      let starts = sym tested ∙ on in
      let r = drop (length key) s in
      let split = starts_split key s starts in
      let a = after 10 key r free in
      let line : upto_of 10 s ≡ key ++ upto_of 10 r = ap (upto_of 10) split ∙ a.upto in
      let cut : drop (length key) (upto_of 10 s) ≡ upto_of 10 r = ap (drop (length key)) line ∙ drop_key key (upto_of 10 r) in
      record {
        way = rw (starts_line key s free ∙ starts) (ap (values_of last n) cut);
        has = ap (has_of 10) split ∙ a.has;
        seek = ap (seek_of 10) split ∙ a.seek;
      }

  module _ {r : Option (List ℕ × ℕ)} (read : r ≡ values_at last n (length key) s) (on : b ≡ true) where
    pub key_read : {a : List ℕ × ℕ} → r ≡ Some a → Ok a ≡ line_of (keyed_of key last n) s
    unfolding values_at
    key_read {a} is =
        let k = keyed on in
        let t = drop (length key) s in
        let p = pick (has_of 10 t) (values_of last n (upto_of 10 t)) (length key + seek_of 10 t) (sym is ∙ read) in
        answers_good (keyed_of key last n) s (k.has ∙ p.0) (p.2 ∙ sym k.seek) (k.way ∙ p.1)
      where
        pick : (h : Bool) (x : Values) (e : ℕ) → Some a ≡ cond h (ended x e) None → (h ≡ true) × (x ≡ found a.0) × (a.1 ≡ e)
        pick true (found vs) e is = let same : a ≡ (vs, e) = cc in (refl, ap (λ (b : List ℕ × ℕ). found b.0) (sym same), ap (λ (b : List ℕ × ℕ). b.1) same)
        pick true misread e is = absurd (cc)
        pick false x e is = absurd (cc)

    pub key_misread : {f : Fault} → r ≡ None → f ≡ cond (has_of 10 s) Wrong Cut → Err f ≡ line_of (keyed_of key last n) s
    unfolding values_at
    key_misread is unread =
        let k = keyed on in
        let t = drop (length key) s in
        answers_unread (keyed_of key last n) s (λ has. k.way ∙ pick (has_of 10 t) (values_of last n (upto_of 10 t)) (length key + seek_of 10 t) (sym is ∙ read) (sym k.has ∙ has)) unread
      where
        pick : (h : Bool) (x : Values) (e : ℕ) → None ≡ cond h (ended x e) None → h ≡ true → x ≡ misread
        pick true (found vs) e is on = cc
        pick true misread e is on = refl
        pick false x e is on = off (sym on)

  pub key_wrong : {f : Fault} → b ≡ false → f ≡ cond (has_of 10 s) Wrong Cut → Err f ≡ line_of (keyed_of key last n) s
  unfolding keyed_of
  key_wrong is unread =
      let none : starts_of key (upto_of 10 s) ≡ false = starts_line key s (lacks_has 10 key short) ∙ sym tested ∙ is in
      answers_unread (keyed_of key last n) s (λ has. rw none) unread
