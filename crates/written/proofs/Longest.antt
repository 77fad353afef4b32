-- A case whose written file has 48,624 bytes: every number in it is as long as the rules let it be. Its members' lines are of one person, whose
-- benefits sum to just 1000000.00.
use mathlib.Core.Path.{◌≡◌, refl, sym, ap, subst, ◌∙◌}
use mathlib.Core.Bool.{Bool, true, false, cond}
use mathlib.Core.List.{List, [], ◌∷◌, map}
use Prim.Native.Nat.{ℕ, zero, suc, ◌+◌, ◌*◌, ◌/◌, ◌^◌, ◌≤◌, ◌<◌}
use native.Mathlib.Omega.{arith}
use native.Mathlib.Nat.{pow-suc, one-le-pow}
use borrow.Author.Tests.{le-leb, lt-ltb}
use lib.Dec.{eqb}
use lib.ListN.{length, get_or, replicate, length-append, length-replicate, get_or-replicate}
use Rattle.plan.specs.declared.Plan.{Plan}
use Rattle.plan.specs.declared.Amendment.{Amendment}
use Rattle.plan.specs.declared.Member.{Member}
use Rattle.plan.specs.Benefit.{formula_of, B}
use Rattle.plan.proofs.BenefitLaws.{flat_benefit}
use Rattle.rules.specs.Rules.{first_among}
use Rattle.rules.specs.Heading.{head_rules}
use Rattle.row_rules.specs.Table.{row_rules, rows_refusal}
use Rattle.amendments.specs.Force.{amend, listed, stands, in_force_after, additions}
use Rattle.amendments.specs.Judging.{amendment_rules, unit_refusal, each_refusal, amendments_refusal}
use Rattle.rule_order.specs.Acceptance.{field_rules, benefit_rules, member_refusal, person_sum}
use Rattle.rule_order.proofs.ValuedLaws.{kept_amended}
use Rattle.printing.specs.Amounts.{width, whole_number, amount}
use Rattle.printing.proofs.AmountLaws.{digits_length, width_one, width_more, whole_one}
use Rattle.walk.specs.Walk.{Case, valued_plan}
use Rattle.walk.specs.Kept.{nobody, id_before, AcceptedCase}
use Rattle.written.specs.Written.{term_lines, amendment_line, row_line, row_lines, member_line, end_line, case_lines, closed_lines, written}
use Rattle.written.specs.Statements.{FullTable, most_written, MostIsReached}
use Rattle.written.proofs.Lengths.{both_long}

-- ---- numbered items
-- n items with the numbers from k on
module _ {A : Type 0} (item : ℕ → A) where
  numbered : (n k : ℕ) → List A
  numbered zero k = []
  numbered (suc n) k = item k ∷ numbered n (suc k)

  count : (n k : ℕ) → length (numbered n k) ≡ n
  unfolding numbered
  count zero k = refl
  count (suc n) k = omega (arith, count n (suc k))

  item_at : (d : A) (n k j : ℕ) → j < n → get_or (numbered n k) j d ≡ item (k + j)
  unfolding numbered
  item_at d zero k j h = absurd (omega arith)
  item_at d (suc n) k zero h = let same : k + zero ≡ k = omega arith in rw same
  item_at d (suc n) k (suc j) h =
      let same : k + suc j ≡ suc k + j = omega arith in
      rw same (item_at d n (suc k) j (omega arith))

  -- lines of one size
  numbered_long : (line : A → List ℕ) (size low high : ℕ) → ((k : ℕ) → low ≤ k → k < high → length (line (item k)) ≡ size) → (n k : ℕ) → low ≤ k → k + n ≤ high → length (closed_lines (map line (numbered n k))) ≡ suc size * n
  unfolding numbered closed_lines
  numbered_long line size low high each zero k from to = omega arith
  numbered_long line size low high each (suc n) k from to =
      simp length-append (omega (arith, each k from (omega arith), numbered_long line size low high each n (suc k) (omega arith) (omega arith)))

-- ---- the case
abbrev long_plan : Plan
long_plan =
    record { interest = 2000; retire = 75; pay = 12; formula = 1; unit = 100000; average = 0; method = 5; assets = 99999999999999; years = 40 }

-- all amendments are struck, and all but the first rest on it
abbrev long_amendment : ℕ → Amendment
long_amendment number = amend number 980 100000 1

long_list : List Amendment
long_list = amend 980 0 100000 1 ∷ numbered long_amendment 19 981

abbrev long_row : List ℕ
long_row = 1000000 ∷ 1000000 ∷ 1000000 ∷ 100000 ∷ []

long_rows : List (List ℕ)
long_rows = replicate 106 long_row

abbrev long_member : ℕ → Member
long_member id = record { id = id; person = 999999999; entry = 74; age = 75; salary = 100000000 }

abbrev long_members : List Member
long_members = numbered long_member 1000 999999000

abbrev longest : Case
longest = record { plan = long_plan; amends = long_list; rows = long_rows; members = long_members }

-- ---- the plan is accepted
full : FullTable long_rows
unfolding long_rows
full = record { all_ages = length-replicate 106 long_row; fours = λ j h. ap length (get_or-replicate 106 j long_row [] h) }

head_kept : first_among (head_rules long_plan) ≡ 0
unfolding head_rules
head_kept = refl

list_kept : amendments_refusal long_plan long_list ≡ 0
unfolding long_list numbered listed stands in_force_after additions amendment_rules unit_refusal each_refusal amendments_refusal
list_kept = refl

rows_kept : rows_refusal long_rows 15 106 ≡ 0
unfolding long_rows row_rules rows_refusal
rows_kept = refl

-- nothing is added to its unit
valued_same : valued_plan longest ≡ long_plan
unfolding long_list numbered stands in_force_after additions
valued_same = refl

-- ---- each member is
benefit_is : (id : ℕ) → B long_plan long_rows (long_member id) 75 ≡ 100000
unfolding long_rows formula_of
benefit_is id = flat_benefit long_plan long_rows (long_member id) (omega arith) 75 (omega arith) refl

member_kept : (before id : ℕ) → before < id → id ≤ 999999999 → member_refusal long_plan long_rows before (long_member id) ≡ 0
unfolding field_rules benefit_rules member_refusal
member_kept before id above h =
    simp (le-leb 1 id (omega arith), le-leb id 999999999 h, lt-ltb before id above, benefit_is id)

id_rises : (j : ℕ) → j < 1000 → id_before long_members j < 999999000 + j
id_rises zero h = omega arith
id_rises (suc j) h =
    omega (arith, ap (λ (m : Member). m.id) (item_at long_member nobody 1000 999999000 j (omega arith)))

members_kept : (j : ℕ) → j < 1000 → member_refusal long_plan long_rows (id_before long_members j) (get_or long_members j nobody) ≡ 0
members_kept j h =
    subst (λ (m : Member). member_refusal long_plan long_rows (id_before long_members j) m ≡ 0) (sym (item_at long_member nobody 1000 999999000 j h)) (member_kept (id_before long_members j) (999999000 + j) (id_rises j h) (omega arith))

-- ---- and the person
no_more : (t : Bool) (b : ℕ) → cond t b 0 ≤ b
no_more true b = omega arith
no_more false b = omega arith

sum_most : (person n k : ℕ) → person_sum long_plan long_rows person (numbered long_member n k) ≤ 100000 * n
unfolding numbered person_sum
sum_most person zero k = omega arith
sum_most person (suc n) k =
    omega (arith, no_more (eqb 999999999 person) (B long_plan long_rows (long_member k) 75), benefit_is k, sum_most person n (suc k))

accepted : AcceptedCase longest
accepted =
    record {
      plan = kept_amended long_plan long_list long_rows head_kept list_kept rows_kept;
      all_ages = full.all_ages;
      few = omega (arith, count long_member 1000 999999000);
      member = λ j h. subst (λ (p : Plan). member_refusal p long_rows (id_before long_members j) (get_or long_members j nobody) ≡ 0) (sym valued_same) (members_kept j (omega (arith, count long_member 1000 999999000)));
      persons = λ person. subst (λ (p : Plan). person_sum p long_rows person long_members ≤ 100000000) (sym valued_same) (omega (arith, sum_most person 1000 999999000));
    }

-- ---- numbers of a known length
-- w and one digits
abbrev Wide : (w n : ℕ) → Type 0
Wide w n = (10 ^ w ≤ n) × (n < 10 ^ suc w)

width_is : (w n : ℕ) → Wide w n → width n ≡ suc w
width_is zero n h = width_one n h.1
width_is (suc w) n h =
    let tens = pow-suc 10 w in
    let hundreds = pow-suc 10 (suc w) in
    let some = one-le-pow w 10 (omega arith) in
    width_more n (omega arith) ∙ ap suc (width_is w (n / 10) (omega arith))

whole_is : (w n : ℕ) → Wide w n → length (whole_number n) ≡ suc w
unfolding whole_number
whole_is w n h = digits_length (width n) n ∙ width_is w n h

-- so many before an amount's point
amount_is : (w cents : ℕ) → Wide w (cents / 100) → length (amount cents) ≡ w + 4
unfolding amount
amount_is w cents h =
    simp (length-append, digits_length 2 cents) (omega (arith, whole_is w (cents / 100) h))

zero_long : length (whole_number 0) ≡ 1
zero_long = ap length (whole_one 0 (omega arith))

-- ---- the lines
terms_long : length (closed_lines (term_lines long_plan)) ≡ 108
unfolding closed_lines term_lines
terms_long =
    simp length-append
    (omega (arith, whole_is 3 2000 (omega arith), whole_is 1 75 (omega arith), whole_is 1 12 (omega arith), whole_is 5 100000 (omega arith), zero_long, amount_is 11 99999999999999 (omega arith), whole_is 1 40 (omega arith)))

first_long : length (amendment_line (amend 980 0 100000 1)) ≡ 20
unfolding amendment_line
first_long =
    simp length-append
    (omega (arith, whole_is 2 980 (omega arith), zero_long, whole_is 5 100000 (omega arith), whole_is 0 1 (omega arith)))

later_long : (number : ℕ) → 100 ≤ number → number < 1000 → length (amendment_line (long_amendment number)) ≡ 22
unfolding amendment_line
later_long number low high =
    simp length-append
    (omega (arith, whole_is 2 number (omega arith), whole_is 2 980 (omega arith), whole_is 5 100000 (omega arith), whole_is 0 1 (omega arith)))

list_long : length (closed_lines (map amendment_line long_list)) ≡ 458
unfolding long_list closed_lines
list_long =
    simp length-append (omega (arith, first_long, numbered_long long_amendment amendment_line 22 100 1000 later_long 19 981 (omega arith) (omega arith)))

row_long : (w age : ℕ) → Wide w age → length (row_line age long_row) ≡ w + 36
unfolding row_line
row_long w age h =
    simp length-append
    (omega (arith, whole_is w age h, whole_is 6 1000000 (omega arith), whole_is 5 100000 (omega arith)))

-- the rows of ages of three digits, and before them those of two: a byte less each
old_rows_long : (age n : ℕ) → 100 ≤ age → age + n ≤ 1000 → length (closed_lines (row_lines age (replicate n long_row))) ≡ 39 * n
unfolding closed_lines row_lines
old_rows_long age zero low high = omega arith
old_rows_long age (suc n) low high =
    simp length-append (omega (arith, row_long 2 age (omega arith), old_rows_long (suc age) n (omega arith) (omega arith)))

all_rows_long : (two age n : ℕ) → age + two ≡ 100 → 10 ≤ age → two ≤ n → age + n ≤ 1000 → length (closed_lines (row_lines age (replicate n long_row))) + two ≡ 39 * n
unfolding closed_lines row_lines
all_rows_long zero age n turn low some high = omega (arith, old_rows_long age n (omega arith) high)
all_rows_long (suc two) age zero turn low some high = absurd (omega arith)
all_rows_long (suc two) age (suc n) turn low some high =
    simp length-append (omega (arith, row_long 1 age (omega arith), all_rows_long two (suc age) n (omega arith) (omega arith) (omega arith) (omega arith)))

rows_long : length (closed_lines (row_lines 15 long_rows)) ≡ 4049
unfolding long_rows
rows_long = omega (arith, all_rows_long 85 15 106 (omega arith) (omega arith) (omega arith) (omega arith))

member_long : (id : ℕ) → 100000000 ≤ id → id < 1000000000 → length (member_line (long_member id)) ≡ 43
unfolding member_line
member_long id low high =
    simp length-append
    (omega (arith, whole_is 8 id (omega arith), whole_is 8 999999999 (omega arith), whole_is 1 74 (omega arith), whole_is 1 75 (omega arith), amount_is 6 100000000 (omega arith)))

members_long : length (closed_lines (map member_line long_members)) ≡ 44000
members_long =
    omega (arith, numbered_long long_member member_line 43 100000000 1000000000 member_long 1000 999999000 (omega arith) (omega arith))

end_long : (count : ℕ) → count ≡ 1000 → length (closed_lines (end_line count ∷ [])) ≡ 9
unfolding closed_lines end_line
end_long count is = simp length-append (omega (arith, whole_is 3 count (omega arith)))

-- ---- the file
long : length (written longest) ≡ most_written
unfolding written case_lines
long =
    simp both_long
    (omega (arith, terms_long, list_long, rows_long, members_long, end_long (length long_members) (count long_member 1000 999999000)))

pub most_is_reached : MostIsReached
most_is_reached = (longest, (full, (accepted, long)))
