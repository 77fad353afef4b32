-- Texts in a buffer: what is written part by part is written whole. `sets` is lib.Seq's.
use mathlib.Core.Path.{◌≡◌, refl, ◌∙◌}
use mathlib.Core.List.{List, [], ◌∷◌, ◌++◌, append-nil}
use Prim.Native.Nat.{ℕ, suc, ◌+◌, ◌-◌, ◌≤◌, ◌<◌}
use native.Mathlib.Omega.{arith}
use native.Mathlib.Numerals.{add-one}
use lib.ListN.{length, get_or, take, drop, set, length-drop, length-append, drop_of_length-le, take-append-drop}
use lib.Seq.{take_all, take-suc, drop-set-add, take-set-le, sets}
use borrow.Rule.Slice.PartMut.{put_mid}
use Rattle.printing.specs.Puts.{PutsAt, Puts}
use Rattle.printing.specs.declared.Page.{Page}

infixl 5 ◌before◌
infixl 5 ◌then◌
-- a second text after the first: both, one after the other
sets_on : (l : List ℕ) (i : ℕ) (vs ws : List ℕ) {k : ℕ} → k ≡ i + length vs → sets (sets l i vs) k ws ≡ sets l i (vs ++ ws)
sets_on l i [] ws {k} at = let here : k ≡ i = omega arith in rw here
sets_on l i (v ∷ vs) ws at = sets_on (set l i v) (suc i) vs ws (omega arith)

pub ◌before◌ : {old new end : List ℕ} {at k j : ℕ} {a b : List ℕ} → PutsAt old at a new k → PutsAt new k b end j → PutsAt old at (a ++ b) end j
◌before◌ {old} {at = at} {a = a} {b} p q =
    record {
      holds = q.holds ∙ rw p.holds (sets_on old at a b p.ends);
      ends = simp length-append (omega (arith, p.ends, q.ends));
    }

-- the same on a page
pub ◌then◌ : {old new end : Page} {a b : List ℕ} → Puts old a new → Puts new b end → Puts old (a ++ b) end
◌then◌ p q = record { writes = p.writes before q.writes; same_buffer = q.same_buffer ∙ p.same_buffer }

-- nothing is written
pub nothing : (old : Page) → Puts old [] old
nothing old = record { writes = record { holds = refl; ends = omega arith }; same_buffer = refl }

-- a text byte by byte
pub byte_on : (s : List ℕ) (i : ℕ) {old now new : Page} → i < length s → Puts old (take i s) now → Puts now (get_or s i 0 ∷ []) new → Puts old (take (i + 1) s) new
byte_on s i h p q = rw (add-one i, take-suc s i 0 h) (p then q)

-- a text in the part that is lent on from a place on: the text in the whole, from there
in_part : (l : List ℕ) (a j : ℕ) (vs : List ℕ) → take a l ++ sets (drop a l) j vs ≡ sets l (a + j) vs
in_part l a j [] = take-append-drop a l
in_part l a j (v ∷ vs) =
    let next : a + suc j ≡ suc (a + j) = omega arith in
    let step = in_part (set l (a + j) v) a (suc j) vs in
    rw (next, take-set-le a l (a + j) v (omega arith), drop-set-add a l j v) at step

pub lent : (l : List ℕ) (a : ℕ) (text : List ℕ) {new : List ℕ} {k : ℕ} → PutsAt (take (length l - a) (drop a l)) 0 text new k → PutsAt l a text (put_mid a (length l - a) l new) (a + k)
lent l a text p =
    let all : length (drop a l) ≤ length l - a = simp length-drop (omega arith) in
    let here : a + 0 ≡ a = omega arith in
    let part = in_part l a 0 text in
    record {
      holds = rw (p.holds, take_all (length l - a) (drop a l) all, drop_of_length-le (drop a l) all, append-nil) (rw here at part);
      ends = omega (arith, p.ends);
    }
