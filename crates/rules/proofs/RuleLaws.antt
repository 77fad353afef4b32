-- The laws of rules in order, and of those that are kept.
use mathlib.Core.Path.{◌≡◌, refl, sym, ◌∙◌}
use mathlib.Core.Bool.{Bool, true, false, cond, ◌&&◌, ◌||◌}
use mathlib.Core.Logic.{◌⊎◌, inl, inr}
use mathlib.Core.List.{List, [], ◌∷◌, ◌++◌}
use Prim.Native.Nat.{ℕ, zero, suc, ◌≤◌}
use native.Mathlib.Omega.{arith}
use borrow.Author.Tests.{leb-true, eq-eqb, ne_eqb}
use lib.Dec.{leb, eqb}
use Rattle.rules.specs.Rules.{unless, first_among, between}

-- one rule more, before the others
pub in_order : {r a b x later : ℕ} → r ≡ cond (eqb a 0) b a → a ≡ x → b ≡ later → r ≡ cond (eqb x 0) later x
in_order e f g = e ∙ (λ i. cond (eqb (f i) 0) (g i) (f i))

-- a refusal is the first of all from there on
pub first_refuses : (a : ℕ) (later : List ℕ) → (a ≡ 0 → ⊥) → first_among (a ∷ later) ≡ a
first_refuses a later h = simp (ne_eqb a 0 h)

-- a rule that is kept is passed over
pub first_passes : (a : ℕ) (later : List ℕ) → a ≡ 0 → first_among (a ∷ later) ≡ first_among later
first_passes a later h = simp (eq-eqb a 0 h)

-- a lone rule
pub first_alone : (a : ℕ) → first_among (a ∷ []) ≡ a
first_alone zero = refl
first_alone (suc a) = simp (ne_eqb (suc a) 0 (λ e. omega arith))

-- ---- where nothing is refused, each rule is kept
abbrev pub AllKept : List ℕ → Type 0
AllKept [] = Unit {0}
AllKept (a ∷ later) = (a ≡ 0) × AllKept later

passed : (a x : ℕ) → cond (eqb a 0) x a ≡ 0 → (a ≡ 0) × (x ≡ 0)
passed zero x e = (refl, e)
passed (suc a) x e = absurd (let h : suc a ≡ 0 = sym (simp (ne_eqb (suc a) 0 (λ e. omega arith))) ∙ e in omega arith)

pub all_kept : (rules : List ℕ) → first_among rules ≡ 0 → AllKept rules
all_kept [] e = tt
all_kept (a ∷ later) e = let h = passed a (first_among later) e in (h.0, all_kept later h.1)

-- and where each is kept, nothing is refused
pub kept_all : (rules : List ℕ) → AllKept rules → first_among rules ≡ 0
kept_all [] k = refl
kept_all (a ∷ rules) k = rw k.0 (kept_all rules k.1)

-- two lists of rules, one after the other
pub refusal_of_both : (rules others : List ℕ) → first_among (rules ++ others) ≡ cond (eqb (first_among rules) 0) (first_among others) (first_among rules)
refusal_of_both [] others = refl
refusal_of_both (zero ∷ rules) others = refusal_of_both rules others
refusal_of_both (suc a ∷ rules) others = simp (ne_eqb (suc a) 0 (λ e. omega arith))

pub both_refusals : (rules others : List ℕ) → first_among (rules ++ others) ≡ 0 → (first_among rules ≡ 0) × (first_among others ≡ 0)
both_refusals rules others e = passed (first_among rules) (first_among others) (sym (refusal_of_both rules others) ∙ e)

pub kept : (t : Bool) (n : ℕ) → unless t (suc n) ≡ 0 → t ≡ true
kept true n e = refl
kept false n e = absurd (omega arith)

apart : false ≡ true → ⊥
apart e = let z : ◌≡◌ {A = ℕ} 0 1 = cc in omega arith

pub both_true : (s t : Bool) → (s && t) ≡ true → (s ≡ true) × (t ≡ true)
both_true true t e = (refl, e)
both_true false t e = absurd (apart e)

pub either_true : (s t : Bool) → (s || t) ≡ true → (s ≡ true) ⊎ (t ≡ true)
either_true true t e = inl refl
either_true false t e = inr e

pub between_true : (lo hi n : ℕ) → between lo hi n ≡ true → (lo ≤ n) × (n ≤ hi)
between_true lo hi n e =
    let h = both_true (leb lo n) (leb n hi) e in
    (leb-true lo n h.0, leb-true n hi h.1)
