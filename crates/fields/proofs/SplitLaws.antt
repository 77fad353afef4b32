-- Where a byte first stands, and what stands before and after it.
use Prim.Native.Nat.{ℕ, suc, ◌+◌, ◌-◌}
use mathlib.Core.Path.{◌≡◌, refl, sym, ap, ◌∙◌}
use mathlib.Core.List.{List, [], ◌∷◌, ◌++◌}
use mathlib.Core.Bool.{Bool, true, false, not, ◌&&◌}
use lib.ListN.{length, take, drop, length-drop}
use lib.Seq.{take_all}
use lib.Dec.{eqb, leb-suc-suc}
use native.Mathlib.Omega.{arith}
use native.Mathlib.Numerals.{add-one}
use borrow.Author.Tests.{eq-eqb, eqb-true, lt-ltb, not-true}
use Rattle.fields.specs.Split.{seek_of, has_of, upto_of, past_of}

-- ---- tests that were passed
pub and_true_left : (a b : Bool) → a && b ≡ true → a ≡ true
and_true_left true b e = refl
and_true_left false b e = e

pub and_true_right : (a b : Bool) → a && b ≡ true → b ≡ true
and_true_right true b e = e
and_true_right false b e = cc

pub and_false : (t : Bool) → t && false ≡ false
and_false true = refl
and_false false = refl

pub off : {A : Type 0} → true ≡ false → A
off e = let z : ◌≡◌ {A = ℕ} 0 1 = cc in absurd (omega arith)

-- ---- the first byte b: what stands before it lacks b
abbrev pub lacks : ℕ → List ℕ → Bool
lacks b [] = true
lacks b (x ∷ t) = not (eqb x b) && lacks b t

pub lacks_more : (b x : ℕ) (t : List ℕ) → lacks b (x ∷ t) ≡ true → (eqb x b ≡ false) × (lacks b t ≡ true)
lacks_more b x t e =
    (not-true (eqb x b) (and_true_left (not (eqb x b)) (lacks b t) e), and_true_right (not (eqb x b)) (lacks b t) e)

-- after a text that lacks b
pub record After (b : ℕ) (t u : List ℕ) : Type 0 where
  pub seek : seek_of b (t ++ u) ≡ length t + seek_of b u
  pub has : has_of b (t ++ u) ≡ has_of b u
  pub upto : upto_of b (t ++ u) ≡ t ++ upto_of b u
  pub past : past_of b (t ++ u) ≡ past_of b u

pub after : (b : ℕ) (t u : List ℕ) → lacks b t ≡ true → After b t u
unfolding has_of upto_of past_of
after b [] u e = record { seek = omega arith; has = refl; upto = refl; past = refl }
after b (x ∷ t) u e =
    let l = lacks_more b x t e in
    let a = after b t u l.1 in
    record {
      seek = simp l.0 (omega (arith, a.seek));
      has = simp (l.0, leb-suc-suc) a.has;
      upto = simp l.0 (ap (λ (r : List ℕ). x ∷ r) a.upto);
      past = simp (l.0, add-one) (simp add-one at a.past);
    }

-- b itself
pub record Here (b : ℕ) (u : List ℕ) : Type 0 where
  pub seek : seek_of b (b ∷ u) ≡ 0
  pub has : has_of b (b ∷ u) ≡ true
  pub upto : upto_of b (b ∷ u) ≡ []
  pub past : past_of b (b ∷ u) ≡ u

pub here : (b : ℕ) (u : List ℕ) → Here b u
unfolding has_of upto_of past_of
here b u =
    let is = eq-eqb b b refl in
    record { seek = simp is; has = simp is (lt-ltb 0 (suc (length u)) (omega arith)); upto = simp is; past = simp is }

-- what lacks b, and what has it
pub lacks_has : (b : ℕ) (s : List ℕ) → has_of b s ≡ false → lacks b s ≡ true
unfolding has_of
lacks_has b [] e = refl
lacks_has b (x ∷ s) e = pick (eqb x b) refl (lacks_has b s)
  where
    pick : (t : Bool) → eqb x b ≡ t → (has_of b s ≡ false → lacks b s ≡ true) → lacks b (x ∷ s) ≡ true
    pick true is on = off (sym (simp is (lt-ltb 0 (suc (length s)) (omega arith))) ∙ e)
    pick false is on = simp is (on (simp (is, leb-suc-suc) at e))

pub has_lacks : (b : ℕ) (s : List ℕ) → lacks b s ≡ true → has_of b s ≡ false
unfolding has_of
has_lacks b [] e = refl
has_lacks b (x ∷ s) e = let l = lacks_more b x s e in simp (l.0, leb-suc-suc) (has_lacks b s l.1)

pub lacks_both : (b : ℕ) (t u : List ℕ) → lacks b t ≡ true → lacks b u ≡ true → lacks b (t ++ u) ≡ true
lacks_both b [] u e f = f
lacks_both b (x ∷ t) u e f = let l = lacks_more b x t e in simp l.0 (lacks_both b t u l.1 f)

-- bytes with a b are what lacks it, b, and the rest
pub record Cut (b : ℕ) (s : List ℕ) : Type 0 where
  pub is : s ≡ upto_of b s ++ b ∷ past_of b s
  pub free : lacks b (upto_of b s) ≡ true

pub cut : (b : ℕ) (s : List ℕ) → has_of b s ≡ true → Cut b s
unfolding has_of upto_of past_of
cut b [] e = off (sym e)
cut b (x ∷ s) e = pick (eqb x b) refl (cut b s)
  where
    pick : (t : Bool) → eqb x b ≡ t → (has_of b s ≡ true → Cut b s) → Cut b (x ∷ s)
    pick true is on = record { is = simp is (ap (λ (y : ℕ). y ∷ s) (eqb-true x b is)); free = simp is }
    pick false is on =
        let c = on (simp (is, leb-suc-suc) at e) in
        record { is = simp (is, add-one) (ap (λ (r : List ℕ). x ∷ r) (simp add-one at c.is)); free = simp is c.free }

-- a part that runs to the end
pub rest_part : (s : List ℕ) (i : ℕ) → take (length s - i) (drop i s) ≡ drop i s
rest_part s i = take_all (length s - i) (drop i s) (simp length-drop (omega arith))
