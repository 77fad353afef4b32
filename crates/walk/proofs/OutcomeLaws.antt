-- Laws of outcomes: what a value says of the way to it, and which refusals there are.
use Prim.Native.Nat.{ℕ, zero, suc}
use mathlib.Core.Path.{◌≡◌, refl}
use mathlib.Core.Bool.{Bool, true, false}
use lib.Dec.{eqb-suc-zero}
use native.Mathlib.Omega.{arith}
use Rattle.rules.specs.Outcome.{Outcome, values, refusal, and_then, passing}
use Rattle.walk.specs.Settled.{settled}

pub no_values : {A B : Type 0} {n l : ℕ} {a : A} → refusal n l ≡ values a → B
no_values e = let z : ◌≡◌ {A = ℕ} 0 1 = cc in absurd (omega arith)

pub values_one : {A : Type 0} {a b : A} → values a ≡ values b → a ≡ b
values_one e = cc

pub passed : {A : Type 0} (r l : ℕ) (o : Outcome A) {a : A} → passing r l o ≡ values a → (r ≡ 0) × (o ≡ values a)
passed zero l o e = (refl, e)
passed (suc r) l o e = no_values (rw (eqb-suc-zero r) at e)

pub refuses : {A : Type 0} (r l : ℕ) (o : Outcome A) → passing (suc r) l o ≡ refusal (suc r) l
refuses r l o = rw (eqb-suc-zero r)

pub settled_none : (ranges : Bool) → settled ranges 0 ≡ 0
settled_none true = refl
settled_none false = refl

pub then_then : {A B C : Type 0} (o : Outcome A) (f : A → Outcome B) (g : B → Outcome C) → and_then (and_then o f) g ≡ and_then o (λ a. and_then (f a) g)
then_then (values a) f g = refl
then_then (refusal n l) f g = refl

pub then_values : {A B : Type 0} (o : Outcome A) (f : A → Outcome B) {b : B} → and_then o f ≡ values b → (a : A) × (o ≡ values a) × (f a ≡ values b)
then_values (values a) f e = (a, refl, e)
then_values (refusal n l) f e = no_values e

-- a refusal, if there is one, is such a one
abbrev pub Only : {A : Type 0} → (ℕ → ℕ → Type 0) → Outcome A → Type 0
Only P (values a) = Unit {0}
Only P (refusal n l) = P n l

pub only_weaker : {A : Type 0} (P Q : ℕ → ℕ → Type 0) → ((n l : ℕ) → P n l → Q n l) → (o : Outcome A) → Only P o → Only Q o
only_weaker P Q more (values a) h = tt
only_weaker P Q more (refusal n l) h = more n l h

module _ {A : Type 0} (P : ℕ → ℕ → Type 0) where
  pub only_then : {B : Type 0} (o : Outcome B) (f : B → Outcome A) → Only P o → ((b : B) → o ≡ values b → Only P (f b)) → Only P (and_then o f)
  only_then (values b) f h k = k b refl
  only_then (refusal n l) f h k = h
