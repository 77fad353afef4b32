-- The laws of the terms' rules, by place and in their order.
use mathlib.Core.Path.{◌≡◌, refl, sym, ap, ◌∙◌}
use mathlib.Core.List.{List, [], ◌∷◌, ◌++◌, append_assoc, append-nil}
use Prim.Native.Nat.{ℕ, zero, suc, ◌+◌, ◌≤◌, ◌<◌}
use native.Mathlib.Omega.{arith}
use lib.ListN.{length, get_or, take, drop, drop_of_length-le, get_or-eq_default}
use lib.Seq.{drop-cons, get_or-take}
use Rattle.rules.specs.Rules.{first_among}
use Rattle.rules.specs.Heading.{TermRule, term_rules, term_rule, unit_rule, average_rule, ruled}
use Rattle.rules.proofs.RuleLaws.{first_refuses, first_passes}

-- past the last term there is no rule
pub no_term : (k : ℕ) (terms : List ℕ) (v : ℕ) → 9 ≤ k → 0 ≡ term_rule k terms v
no_term k terms v h = sym (ap (λ (r : TermRule). r terms v) (get_or-eq_default term_rules (λ b v. 0) h))

-- a rule looks at no term but those before it
pub only_before : (k : ℕ) (t : List ℕ) (v : ℕ) → term_rule k (take k t) v ≡ term_rule k t v
only_before zero t v = refl
only_before (suc zero) t v = refl
only_before (suc (suc zero)) t v = refl
only_before (suc (suc (suc zero))) t v = refl
only_before (suc (suc (suc (suc zero)))) t v = ap (λ (f : ℕ). unit_rule f v) (get_or-take 4 t 3 0 (omega arith))
only_before (suc (suc (suc (suc (suc zero))))) t v = ap (λ (f : ℕ). average_rule f v) (get_or-take 5 t 3 0 (omega arith))
only_before (suc (suc (suc (suc (suc (suc zero)))))) t v = refl
only_before (suc (suc (suc (suc (suc (suc (suc zero))))))) t v = refl
only_before (suc (suc (suc (suc (suc (suc (suc (suc zero)))))))) t v = refl
only_before (suc (suc (suc (suc (suc (suc (suc (suc (suc k))))))))) t v = refl

-- each is ruled by the rule of its place
ruled_at : (rules : List TermRule) (before t : List ℕ) (k : ℕ) → k < length rules → k < length t → get_or (ruled rules before t) k 0 ≡ get_or rules k (λ b v. 0) (before ++ take k t) (get_or t k 0)
ruled_at [] before t k h l = absurd (omega arith)
ruled_at (rule ∷ rules) before [] k h l = absurd (omega arith)
ruled_at (rule ∷ rules) before (v ∷ t) zero h l = rw append-nil
ruled_at (rule ∷ rules) before (v ∷ t) (suc k) h l =
    rw append_assoc at (ruled_at rules (before ++ v ∷ []) t k (omega arith) (omega arith))

ruled_all : (rules : List TermRule) (before t : List ℕ) → length t ≤ length rules → length (ruled rules before t) ≡ length t
ruled_all [] before [] h = refl
ruled_all [] before (v ∷ t) h = absurd (omega arith)
ruled_all (rule ∷ rules) before [] h = refl
ruled_all (rule ∷ rules) before (v ∷ t) h = ap suc (ruled_all rules (before ++ v ∷ []) t (omega arith))

-- ---- the terms from the k-th on
abbrev pub terms_from : List ℕ → ℕ → ℕ
terms_from t k = first_among (drop k (ruled term_rules [] t))

module _ (t : List ℕ) (size : length t ≡ length term_rules) where
  all : length (ruled term_rules [] t) ≡ length term_rules
  all = ruled_all term_rules [] t (omega arith) ∙ size

  module _ (k : ℕ) {n : ℕ} (here : n ≡ term_rule k t (get_or t k 0)) where
    unfolds : k < length term_rules → terms_from t k ≡ first_among (n ∷ drop (k + 1) (ruled term_rules [] t))
    unfolds h =
        let next : suc k ≡ k + 1 = omega arith in
        let rule = ruled_at term_rules [] t k h (omega arith) ∙ only_before k t (get_or t k 0) ∙ sym here in
        ap first_among (drop-cons (ruled term_rules [] t) k 0 (omega (arith, all)))
        ∙ (λ i. first_among (rule i ∷ drop (next i) (ruled term_rules [] t)))

    pub terms_refused : k < length term_rules → (n ≡ 0 → ⊥) → n ≡ terms_from t k
    terms_refused h some = sym (unfolds h ∙ first_refuses n (drop (k + 1) (ruled term_rules [] t)) some)

    pub terms_passed : k < length term_rules → n ≡ 0 → terms_from t k ≡ terms_from t (k + 1)
    terms_passed h none = unfolds h ∙ first_passes n (drop (k + 1) (ruled term_rules [] t)) none

  pub terms_done : (k : ℕ) → length term_rules ≤ k → terms_from t k ≡ 0
  terms_done k h = rw (drop_of_length-le (ruled term_rules [] t) {i = k} (omega (arith, all)))
