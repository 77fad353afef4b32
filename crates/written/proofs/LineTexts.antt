-- The lines after the terms: what is read of each is what was written, and nothing else is read as it.
use mathlib.Core.Path.{◌≡◌, refl, sym, ap, ◌∙◌}
use mathlib.Core.Bool.{Bool, true, false, cond}
use mathlib.Core.List.{List, [], ◌∷◌, ◌++◌}
use Prim.Native.Nat.{ℕ, suc, ◌+◌, ◌<◌}
use native.Mathlib.Omega.{arith}
use lib.Dec.{eqb}
use lib.ListN.{length, get_or}
use borrow.Author.Tests.{eqb-true, eq-eqb}
use Rattle.fields.specs.Text.{bytes}
use Rattle.fields.specs.Split.{starts_of}
use Rattle.fields.specs.Numbers.{whole_of, amount_of}
use Rattle.fields.specs.Values.{Values, found, misread, keyed_of}
use Rattle.plan.specs.declared.Amendment.{Amendment}
use Rattle.plan.specs.declared.Member.{Member}
use Rattle.plan.specs.Numbers.{amendment_from, fields_of, member_from}
use Rattle.printing.specs.Amounts.{whole_number, amount}
use Rattle.walk.specs.Lines.{amend_form, in_turn, row_form, Tail, listed, end, surplus, neither, listed_made, end_made, tail_of}
use Rattle.written.specs.Written.{amendment_line, row_line, row_lines, member_line, end_line}
use Rattle.written.proofs.ValueTexts.{none_found, found_one, wholes, amounts, texts, Small, keyed_text, text_keyed, keyed_self}

-- the numbers of a line, by their count
four : (vs : List ℕ) → length vs ≡ 4 → vs ≡ get_or vs 0 0 ∷ get_or vs 1 0 ∷ get_or vs 2 0 ∷ get_or vs 3 0 ∷ []
four [] n = absurd (omega arith)
four (a ∷ []) n = absurd (omega arith)
four (a ∷ b ∷ []) n = absurd (omega arith)
four (a ∷ b ∷ c ∷ []) n = absurd (omega arith)
four (a ∷ b ∷ c ∷ d ∷ []) n = refl
four (a ∷ b ∷ c ∷ d ∷ e ∷ vs) n = absurd (omega arith)

-- ---- an amendment
pub amend_read : (s vs : List ℕ) → amend_form s ≡ found vs → s ≡ amendment_line (amendment_from vs)
unfolding amend_form amendment_line
amend_read s vs e = let t = keyed_text wholes (bytes "amend=") 3 s vs e in t.0 ∙ ap (λ (us : List ℕ). bytes "amend=" ++ texts whole_number 3 us) (four vs t.1)

pub amend_back : (a : Amendment) → Small 1000000000000 3 (fields_of a) → amend_form (amendment_line a) ≡ found (fields_of a)
unfolding amend_form amendment_line
amend_back a small = text_keyed wholes (bytes "amend=") 3 (fields_of a) refl small

pub amend_self : (a : Amendment) (vs : List ℕ) → amend_form (amendment_line a) ≡ found vs → vs ≡ fields_of a
unfolding amend_form amendment_line
amend_self a vs e = keyed_self wholes (bytes "amend=") 3 (fields_of a) vs refl e

-- ---- a row
abbrev pub numbers_of : List ℕ → List ℕ
numbers_of row = get_or row 0 0 ∷ get_or row 1 0 ∷ get_or row 2 0 ∷ get_or row 3 0 ∷ []

-- a row that was in its turn
in_turn_lem : (age : ℕ) (x : Values) (row : List ℕ) → in_turn age x ≡ found row → x ≡ found (age ∷ row)
in_turn_lem age misread row e = none_found e
in_turn_lem age (found []) row e = none_found e
in_turn_lem age (found (a ∷ r)) row e = pick (eqb a age) refl e
  where
    pick : (b : Bool) → eqb a age ≡ b → cond b (found r) misread ≡ found row → found (a ∷ r) ≡ found (age ∷ row)
    pick false is e = none_found e
    pick true is e = let same = eqb-true a age is in let rest = found_one e in λ i. found (same i ∷ rest i)

pub row_read : (age : ℕ) (s row : List ℕ) → row_form age s ≡ found row → (s ≡ row_line age row) × (length row ≡ 4)
unfolding row_form row_line
row_read age s row e =
    let x = in_turn_lem age (keyed_of (bytes "row=") whole_of 4 s) row e in
    let t = keyed_text wholes (bytes "row=") 4 s (age ∷ row) x in
    let all : length row ≡ 4 = omega (arith, t.1) in
    (t.0 ∙ ap (λ (us : List ℕ). bytes "row=" ++ texts whole_number 4 (age ∷ us)) (four row all), all)

pub row_back : (age : ℕ) (row : List ℕ) → length row ≡ 4 → age < 1000000000000 → Small 1000000000000 3 (numbers_of row) → row_form age (row_line age row) ≡ found row
unfolding row_form row_line
row_back age row all due small =
    let x = text_keyed wholes (bytes "row=") 4 (age ∷ numbers_of row) refl (due, small) in
    ap (in_turn age) x ∙ simp (eq-eqb age age refl) (ap found (sym (four row all)))

pub row_self : (age : ℕ) (row r : List ℕ) → length row ≡ 4 → row_form age (row_line age row) ≡ found r → r ≡ row
unfolding row_form row_line
row_self age row r all e =
    let x = in_turn_lem age (keyed_of (bytes "row=") whole_of 4 (row_line age row)) r e in
    let same = keyed_self wholes (bytes "row=") 4 (age ∷ numbers_of row) (age ∷ r) refl x in
    ap (λ (us : List ℕ). tail us) same ∙ sym (four row all)
  where
    tail : List ℕ → List ℕ
    tail [] = []
    tail (a ∷ us) = us

-- some rows and then others
pub rows_both : (age : ℕ) (a b : List (List ℕ)) → row_lines age (a ++ b) ≡ row_lines age a ++ row_lines (age + length a) b
unfolding row_lines
rows_both age [] b = let here : age ≡ age + 0 = omega arith in ap (λ (n : ℕ). row_lines n b) here
rows_both age (row ∷ a) b =
    let next : suc age + length a ≡ age + suc (length a) = omega arith in
    rw (← next) (ap (λ (l : List (List ℕ)). row_line age row ∷ l) (rows_both (suc age) a b))

-- ---- a member, or the end
abbrev pub five_of : Member → List ℕ
five_of m = m.id ∷ m.person ∷ m.entry ∷ m.age ∷ m.salary ∷ []

-- what is read of a line after the rows is that member, if it is one; or it is that end
abbrev pub IsMember : List ℕ → Tail → Type 0
IsMember s (listed m) = s ≡ member_line m
IsMember s (end n) = s ≡ end_line n
IsMember s surplus = Unit {0}
IsMember s neither = Unit {0}

five : (vs : List ℕ) → length vs ≡ 5 → vs ≡ five_of (member_from vs)
five [] n = absurd (omega arith)
five (a ∷ vs) n = ap (λ (us : List ℕ). a ∷ us) (four vs (omega arith))

pub tail_read : (full : Bool) (s : List ℕ) → IsMember s (tail_of full s)
unfolding tail_of member_line end_line
tail_read full s = pick (starts_of (bytes "member=") s) full
  where
    member : (x : Values) → keyed_of (bytes "member=") amount_of 4 s ≡ x → IsMember s (listed_made x)
    member (found vs) e =
        let t = keyed_text amounts (bytes "member=") 4 s vs e in
        t.0 ∙ ap (λ (us : List ℕ). bytes "member=" ++ texts amount 4 us) (five vs t.1)
    member misread e = tt

    last : (x : Values) → keyed_of (bytes "end=") whole_of 0 s ≡ x → IsMember s (end_made x)
    last (found vs) e = (keyed_text wholes (bytes "end=") 0 s vs e).0
    last misread e = tt

    pick : (b full : Bool) → IsMember s (cond b (cond full surplus (listed_made (keyed_of (bytes "member=") amount_of 4 s))) (end_made (keyed_of (bytes "end=") whole_of 0 s)))
    pick true true = tt
    pick true false = member (keyed_of (bytes "member=") amount_of 4 s) refl
    pick false full = last (keyed_of (bytes "end=") whole_of 0 s) refl

pub member_back : (m : Member) → Small 100000000000000 4 (five_of m) → tail_of false (member_line m) ≡ listed m
unfolding tail_of member_line
member_back m small = ap listed_made (text_keyed amounts (bytes "member=") 4 (five_of m) refl small)

pub end_back : (full : Bool) (n : ℕ) → n < 1000000000000 → tail_of full (end_line n) ≡ end n
unfolding tail_of end_line
end_back full n small = ap end_made (text_keyed wholes (bytes "end=") 0 (n ∷ []) refl small)

-- a member's line is no other member's, and no end
abbrev pub OnlyMember : Member → Tail → Type 0
OnlyMember m (listed other) = other ≡ m
OnlyMember m (end n) = ⊥
OnlyMember m surplus = Unit {0}
OnlyMember m neither = Unit {0}

pub member_only : (full : Bool) (m : Member) → OnlyMember m (tail_of full (member_line m))
unfolding tail_of member_line
member_only true m = tt
member_only false m = pick (keyed_of (bytes "member=") amount_of 4 (member_line m)) refl
  where
    pick : (x : Values) → keyed_of (bytes "member=") amount_of 4 (member_line m) ≡ x → OnlyMember m (listed_made x)
    pick (found vs) e = ap member_from (keyed_self amounts (bytes "member=") 4 (five_of m) vs refl e)
    pick misread e = tt

-- and an end's line is no member's, and no other end
abbrev pub OnlyEnd : ℕ → Tail → Type 0
OnlyEnd n (listed m) = ⊥
OnlyEnd n (end count) = count ≡ n
OnlyEnd n surplus = Unit {0}
OnlyEnd n neither = Unit {0}

pub end_only : (full : Bool) (n : ℕ) → OnlyEnd n (tail_of full (end_line n))
unfolding tail_of end_line
end_only full n = pick (keyed_of (bytes "end=") whole_of 0 (end_line n)) refl
  where
    pick : (x : Values) → keyed_of (bytes "end=") whole_of 0 (end_line n) ≡ x → OnlyEnd n (end_made x)
    pick (found vs) e = ap (λ (us : List ℕ). get_or us 0 0) (keyed_self wholes (bytes "end=") 0 (n ∷ []) vs refl e)
    pick misread e = tt
