-- What is refused of an amendment, step by step as the code asks.
use Prim.Native.Nat.{ℕ, zero, suc, ◌+◌, ◌≤◌, ◌<◌}
use mathlib.Core.Path.{◌≡◌, sym, ap, ◌∙◌}
use mathlib.Core.List.{List, [], ◌∷◌, ◌++◌, map-append}
use mathlib.Core.Bool.{Bool, true, false, cond}
use lib.ListN.{length, take, set, length-map}
use lib.Seq.{length-take-le, take-suc-set}
use lib.Dec.{eqb, eqb-suc-zero}
use native.Mathlib.Omega.{arith}
use native.Mathlib.Numerals.{add-one}
use borrow.Author.Tests.{le-leb, lt-leb}
use Rattle.plan.specs.declared.Plan.{Plan}
use Rattle.plan.specs.declared.Amendment.{Amendment}
use Rattle.rules.specs.Rules.{first_among}
use Rattle.rules.proofs.RuleLaws.{first_refuses, first_passes, first_alone}
use Rattle.plan.specs.Numbers.{amendment_from, fields_of}
use Rattle.amendments.specs.Force.{amendments_from}
use Rattle.amendments.specs.Judging.{most_amendments, field_refusal, amendment_refusal, unit_refusal, each_refusal}
use Rattle.walk.specs.Settled.{settled}
use Rattle.walk.proofs.StepLaws.{each_next}
use Rattle.walk.proofs.Accepted.{amends_kept}
use Rattle.amend_lines.specs.Stretch.{surplus_of, refusal_of}

-- the first of two rules refuses, or the second is the answer
pub settled_first : (ranges : Bool) (a b x : ℕ) → x ≡ settled ranges a → (x ≡ 0 → ⊥) → x ≡ settled ranges (first_among (a ∷ b ∷ []))
settled_first true a b x e some = e ∙ sym (first_refuses a (b ∷ []) (λ z. some (e ∙ z)))
settled_first false a b x e some = absurd (some e)

pub settled_second : (ranges : Bool) (a b x y : ℕ) → x ≡ settled ranges a → x ≡ 0 → y ≡ settled ranges b → y ≡ settled ranges (first_among (a ∷ b ∷ []))
settled_second true a b x y e none f = f ∙ sym (first_passes a (b ∷ []) (sym e ∙ none) ∙ first_alone b)
settled_second false a b x y e none f = f

module _ (ranges : Bool) (p : Plan) (before : List Amendment) (a : Amendment) (more : Bool) where
  pub refusal_surplus : most_amendments ≤ length before → refusal_of ranges p before a more ≡ surplus_of ranges a
  refusal_surplus full = simp (le-leb most_amendments (length before) full)

  pub refusal_listed : length before < most_amendments → refusal_of ranges p before a more ≡ settled ranges (first_among (amendment_refusal before a ∷ cond more 0 (unit_refusal p (before ++ a ∷ [])) ∷ []))
  refusal_listed room = simp (lt-leb most_amendments (length before) room)

-- a twenty-first is always refused
pub surplus_some : (ranges : Bool) (a : Amendment) → surplus_of ranges a ≡ 0 → ⊥
surplus_some ranges a = pick (settled ranges (field_refusal a))
  where
    pick : (y : ℕ) → cond (eqb y 0) 53 y ≡ 0 → ⊥
    pick zero e = omega arith
    pick (suc y) e = let h = rw (eqb-suc-zero y) at e in omega arith

-- ---- the list, with one more
pub many : (L : List (List ℕ)) (n : ℕ) → n ≤ length L → length (amendments_from (take n L)) ≡ n
many L n h = length-map (take n L) amendment_from ∙ length-take-le n L h

pub stored : (L : List (List ℕ)) (n : ℕ) (a : Amendment) → n < length L → amendments_from (take (n + 1) (set L n (fields_of a))) ≡ amendments_from (take n L) ++ a ∷ []
stored L n a h =
    rw (add-one n) (ap amendments_from (take-suc-set L n (fields_of a) h) ∙ map-append amendment_from (take n L) (fields_of a ∷ []))

-- it is kept, and so are those before it
pub kept_next : (ranges : Bool) (before : List Amendment) (a : Amendment) (x : ℕ) → x ≡ settled ranges (amendment_refusal before a) → x ≡ 0 → (ranges ≡ true → each_refusal [] before ≡ 0) → ranges ≡ true → each_refusal [] (before ++ a ∷ []) ≡ 0
kept_next ranges before a x e none kept on =
    (amends_kept [] (before ++ a ∷ [])).0 ((each_next amendment_refusal [] before a).1 ((amends_kept [] before).1 (kept on), sym (e ∙ rw on) ∙ none))
