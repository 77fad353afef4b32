-- The lines of the terms: each is read back, and nothing else is read as it.
use mathlib.Core.Path.{◌≡◌, refl, sym, ap, ◌∙◌}
use mathlib.Core.Bool.{Bool, true, false, cond}
use mathlib.Core.List.{List, [], ◌∷◌, ◌++◌, map, append-nil}
use Prim.Native.Nat.{ℕ, zero, suc, ◌+◌, ◌≤◌, ◌<◌}
use native.Mathlib.Omega.{arith}
use native.Mathlib.Nat.{add-zero}
use lib.Dec.{ltb, eqb}
use lib.ListN.{length, get_or, drop, drop_of_length-le, length-map, get_or-eq_default}
use borrow.Author.Tests.{eqb-true, ltb-true, ltb-false}
use Rattle.fields.specs.Text.{bytes}
use Rattle.fields.specs.Split.{starts_of, same_of}
use Rattle.fields.specs.Numbers.{Number}
use Rattle.fields.specs.Values.{Values, found, misread, keyed_of}
use Rattle.fields.proofs.SplitLaws.{and_true_left, and_true_right}
use Rattle.fields.proofs.KeyLaws.{starts_split}
use Rattle.plan.specs.declared.Plan.{Plan}
use Rattle.printing.specs.Amounts.{whole_number, amount}
use Rattle.plan.specs.Numbers.{terms_of}
use Rattle.walk.specs.Terms.{coded_from, formula_word, method_word, term_forms}
use Rattle.written.specs.Written.{word_of, formula_words, method_words, term_lines}
use Rattle.written.proofs.ValueTexts.{none_found, found_one, Kind, wholes, amounts, keyed_text, text_keyed, keyed_self}

-- ---- a term: how it is written, and between which values it is read back
pub record Term : Type 0 where
  pub write : ℕ → List ℕ
  pub low : ℕ
  pub high : ℕ

pub record TermTexts (form : List ℕ → Values) (t : Term) : Type 0 where
  pub back : (v : ℕ) → t.low ≤ v → v ≤ t.high → form (t.write v) ≡ found (v ∷ [])
  pub one : (s vs : List ℕ) → form s ≡ found vs → s ≡ t.write (get_or vs 0 0)
  pub self : (v : ℕ) (vs : List ℕ) → form (t.write v) ≡ found vs → get_or vs 0 0 ≡ v

-- ---- numbers
abbrev pub numbered : (key : List ℕ) → (show : ℕ → List ℕ) → (high : ℕ) → Term
numbered key show high = record { write = λ v. key ++ show v; low = 0; high = high }

number_texts : {last : List ℕ → Number} {show : ℕ → List ℕ} {high : ℕ} (kind : Kind last show (suc high)) (key : List ℕ) → TermTexts (keyed_of key last 0) (numbered key show high)
number_texts kind key =
    record {
      back = λ v low high. text_keyed kind key 0 (v ∷ []) refl (omega (arith, high));
      one = λ s vs e. (keyed_text kind key 0 s vs e).0;
      self = λ v vs e. ap (λ (us : List ℕ). get_or us 0 0) (keyed_self kind key 0 (v ∷ []) vs refl e);
    }

-- ---- words
abbrev pub worded : (key : List ℕ) → (words : List (List ℕ)) → Term
worded key words = record { write = λ code. key ++ word_of words code; low = 1; high = length words }

-- a line that is the same as a text
same_is : (text s : List ℕ) → same_of text s ≡ true → s ≡ text
unfolding same_of
same_is text s e =
    let starts = and_true_left (starts_of text s) (eqb (length s) (length text)) e in
    let long = eqb-true (length s) (length text) (and_true_right (starts_of text s) (eqb (length s) (length text)) e) in
    let none : drop (length text) s ≡ [] = drop_of_length-le s {i = length text} (omega (arith, long)) in
    starts_split text s starts ∙ rw none (append-nil text)

-- the word that was read, by its place
record Coded (code : ℕ) (lines : List (List ℕ)) (s vs : List ℕ) : Type 0 where
  place : ℕ
  within : place < length lines
  is : s ≡ get_or lines place []
  coded : vs ≡ (code + place) ∷ []

coded_is : (code : ℕ) (lines : List (List ℕ)) (s vs : List ℕ) → coded_from code lines s ≡ found vs → Coded code lines s vs
coded_is code [] s vs e = none_found e
coded_is code (line ∷ lines) s vs e = pick (same_of line s) refl (coded_is (code + 1) lines s vs) e
  where
    pick : (b : Bool) → same_of line s ≡ b → (coded_from (code + 1) lines s ≡ found vs → Coded (code + 1) lines s vs) → cond b (found (code ∷ [])) (coded_from (code + 1) lines s) ≡ found vs → Coded code (line ∷ lines) s vs
    pick true same on e = record { place = 0; within = omega arith; is = same_is line s same; coded = sym (found_one e) ∙ rw (add-zero code) }
    pick false same on e =
        let c = on e in
        let next : code + 1 + c.place ≡ code + suc c.place = omega arith in
        record { place = suc c.place; within = omega (arith, c.within); is = c.is; coded = rw next at c.coded }

-- the lines of some words, each after the key
abbrev lined : (key : List ℕ) → (words : List (List ℕ)) → List (List ℕ)
lined key words = map (λ (w : List ℕ). key ++ w) words

line_at : (key : List ℕ) (words : List (List ℕ)) (k : ℕ) → k < length words → get_or (lined key words) k [] ≡ key ++ get_or words k []
line_at key [] k h = absurd (omega arith)
line_at key (w ∷ words) zero h = refl
line_at key (w ∷ words) (suc k) h = line_at key words k (omega arith)

-- `back` is computed, word by word, and that the key alone is no line
word_texts : (key : List ℕ) (words : List (List ℕ)) → ((v : ℕ) → 1 ≤ v → v ≤ length words → coded_from 1 (lined key words) (key ++ word_of words v) ≡ found (v ∷ [])) → coded_from 1 (lined key words) (key ++ []) ≡ misread → TermTexts (coded_from 1 (lined key words)) (worded key words)
word_texts key words back none = record { back = back; one = one; self = self }
  where
    one : (s vs : List ℕ) → coded_from 1 (lined key words) s ≡ found vs → s ≡ key ++ word_of words (get_or vs 0 0)
    one s vs e =
        let c = coded_is 1 (lined key words) s vs e in
        let code : 1 + c.place ≡ suc c.place = omega arith in
        let long : length (lined key words) ≡ length words = length-map words (λ (w : List ℕ). key ++ w) in
        c.is ∙ line_at key words c.place (omega (arith, c.within, long)) ∙ sym (ap (λ (us : List ℕ). key ++ word_of words (get_or us 0 0)) (rw code at c.coded))

    self : (v : ℕ) (vs : List ℕ) → coded_from 1 (lined key words) (key ++ word_of words v) ≡ found vs → get_or vs 0 0 ≡ v
    self zero vs e = none_found (sym none ∙ e)
    self (suc k) vs e = pick (ltb k (length words)) refl
      where
        pick : (b : Bool) → ltb k (length words) ≡ b → get_or vs 0 0 ≡ suc k
        pick true h = ap (λ (us : List ℕ). get_or us 0 0) (found_one (sym e ∙ back (suc k) (omega arith) (ltb-true k (length words) h)))
        pick false h = none_found (sym none ∙ rw (get_or-eq_default words [] (ltb-false k (length words) h)) at e)

formula_texts : TermTexts formula_word (worded (bytes "formula=") formula_words)
unfolding formula_word same_of
formula_texts = word_texts (bytes "formula=") formula_words back refl
  where
    back : (v : ℕ) → 1 ≤ v → v ≤ 3 → coded_from 1 (lined (bytes "formula=") formula_words) (bytes "formula=" ++ word_of formula_words v) ≡ found (v ∷ [])
    back zero low high = absurd (omega arith)
    back (suc zero) low high = refl
    back (suc (suc zero)) low high = refl
    back (suc (suc (suc zero))) low high = refl
    back (suc (suc (suc (suc v)))) low high = absurd (omega arith)

method_texts : TermTexts method_word (worded (bytes "method=") method_words)
unfolding method_word same_of
method_texts = word_texts (bytes "method=") method_words back refl
  where
    back : (v : ℕ) → 1 ≤ v → v ≤ 5 → coded_from 1 (lined (bytes "method=") method_words) (bytes "method=" ++ word_of method_words v) ≡ found (v ∷ [])
    back zero low high = absurd (omega arith)
    back (suc zero) low high = refl
    back (suc (suc zero)) low high = refl
    back (suc (suc (suc zero))) low high = refl
    back (suc (suc (suc (suc zero)))) low high = refl
    back (suc (suc (suc (suc (suc zero))))) low high = refl
    back (suc (suc (suc (suc (suc (suc v)))))) low high = absurd (omega arith)

-- ---- the nine
abbrev pub terms : List Term
terms =
    numbered (bytes "interest=") whole_number 999999999999
    ∷ numbered (bytes "retire=") whole_number 999999999999
    ∷ numbered (bytes "pay=") whole_number 999999999999
    ∷ worded (bytes "formula=") formula_words
    ∷ numbered (bytes "unit=") whole_number 999999999999
    ∷ numbered (bytes "average=") whole_number 999999999999
    ∷ worded (bytes "method=") method_words
    ∷ numbered (bytes "assets=") amount 99999999999999
    ∷ numbered (bytes "years=") whole_number 999999999999
    ∷ []

abbrev pub AllTexts : List (List ℕ → Values) → List Term → Type 0
AllTexts [] [] = Unit {0}
AllTexts [] (t ∷ ts) = ⊥
AllTexts (form ∷ forms) [] = ⊥
AllTexts (form ∷ forms) (t ∷ ts) = TermTexts form t × AllTexts forms ts

pub all_texts : AllTexts term_forms terms
unfolding term_forms
all_texts = (
  number_texts wholes (bytes "interest="),
  (
    number_texts wholes (bytes "retire="),
    (
      number_texts wholes (bytes "pay="),
      (formula_texts, (number_texts wholes (bytes "unit="), (number_texts wholes (bytes "average="), (method_texts, (number_texts amounts (bytes "assets="), (number_texts wholes (bytes "years="), tt)))))),
    ),
  ),
)

-- some terms, written
abbrev pub spelt : List Term → List ℕ → List (List ℕ)
spelt ts [] = []
spelt [] (v ∷ vs) = []
spelt (t ∷ ts) (v ∷ vs) = t.write v ∷ spelt ts vs

-- those of a plan are its lines
pub plan_lines_lem : (p : Plan) → term_lines p ≡ spelt terms (terms_of p)
unfolding term_lines
plan_lines_lem p = refl

-- past the last there is no term
abbrev no_term : Term
no_term = record { write = λ v. []; low = 0; high = 0 }

-- one term more
pub spelt_more : (ts : List Term) (vs : List ℕ) (v : ℕ) → length vs < length ts → spelt ts (vs ++ v ∷ []) ≡ spelt ts vs ++ (get_or ts (length vs) no_term).write v ∷ []
spelt_more [] vs v h = absurd (omega arith)
spelt_more (t ∷ ts) [] v h = refl
spelt_more (t ∷ ts) (u ∷ vs) v h = ap (λ (l : List (List ℕ)). t.write u ∷ l) (spelt_more ts vs v (omega arith))

-- the term with so many before it: what is read at its place is its line
pub read_term : (forms : List (List ℕ → Values)) (ts : List Term) → AllTexts forms ts → (k : ℕ) (s vs : List ℕ) → get_or forms k (λ line. misread) s ≡ found vs → s ≡ (get_or ts k no_term).write (get_or vs 0 0)
read_term [] [] all k s vs e = none_found e
read_term [] (t ∷ ts) all k s vs e = absurd all
read_term (form ∷ forms) [] all k s vs e = absurd all
read_term (form ∷ forms) (t ∷ ts) all zero s vs e = all.0.one s vs e
read_term (form ∷ forms) (t ∷ ts) all (suc k) s vs e = read_term forms ts all.1 k s vs e
