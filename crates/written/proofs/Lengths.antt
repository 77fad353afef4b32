-- How long the lines of a case file can be, and so the whole file: 48,624 bytes (rule 13.9). Each kind of line first, then the lists of them.
use mathlib.Core.Path.{◌≡◌, refl, ap, ◌∙◌}
use mathlib.Core.Logic.{⊎_elim}
use mathlib.Core.Bool.{cond, true}
use mathlib.Core.List.{List, [], ◌∷◌, ◌++◌, map}
use Prim.Native.Nat.{ℕ, zero, suc, ◌+◌, ◌-◌, ◌*◌, ◌^◌, ◌≤◌, ◌<◌}
use native.Mathlib.Omega.{arith}
use borrow.Author.Tests.{eqb-true}
use lib.Dec.{eqb}
use lib.ListN.{length, get_or, take, drop, length-append}
use lib.Seq.{split_at}
use Rattle.rates.specs.Table.{ages, Sound}
use Rattle.plan.specs.declared.Plan.{Plan}
use Rattle.plan.specs.declared.Amendment.{Amendment}
use Rattle.plan.specs.declared.Member.{Member}
use Rattle.plan.specs.Ranges.{PlanRanges}
use Rattle.rules.specs.Rules.{first_among, between}
use Rattle.rules.specs.Heading.{head_rules}
use Rattle.rules.proofs.RuleLaws.{all_kept, kept, between_true}
use Rattle.amendments.specs.Judging.{each_refusal}
use Rattle.amendments.specs.Statements.{Keeps}
use Rattle.amendments.proofs.Keeping.{list_kept, keeps_at, few_listed}
use Rattle.rule_order.specs.Acceptance.{plan_refusal, member_refusal}
use Rattle.rule_order.proofs.Facts.{head_facts, plan_facts, member_facts, id_small, person_range}
use Rattle.rule_order.proofs.ValuedLaws.{amended_kept, valued_is_accepted}
use Rattle.printing.specs.Amounts.{whole_number}
use Rattle.printing.proofs.AmountLaws.{whole_most, amount_most}
use Rattle.walk.specs.Walk.{valued_plan}
use Rattle.walk.specs.Kept.{nobody, id_before}
use Rattle.written.specs.Written.{word_of, formula_words, method_words, term_lines, amendment_line, row_line, row_lines, member_line, end_line, case_lines, closed_lines, written}
use Rattle.written.specs.Statements.{most_written, WrittenMost}
use Rattle.written.proofs.Closing.{closed_both}

-- ---- lines and more lines
pub both_long : (a b : List (List ℕ)) → length (closed_lines (a ++ b)) ≡ length (closed_lines a) + length (closed_lines b)
both_long a b = ap length (closed_both a b) ∙ length-append (closed_lines a) (closed_lines b)

-- a line for each item of a list, none longer than `most`
each_most : {A : Type 0} (most : ℕ) (line : A → List ℕ) (d : A) (l : List A) → ((j : ℕ) → j < length l → length (line (get_or l j d)) ≤ most) → length (closed_lines (map line l)) ≤ suc most * length l
unfolding closed_lines
each_most most line d [] short = omega arith
each_most most line d (a ∷ l) short =
    simp length-append (omega (arith, short 0 (omega arith), each_most most line d l (λ j h. short (suc j) (omega arith))))

-- ---- the terms
-- the formula, the unit and the average: flat has the longest unit, and final alone an average of two digits
formula_most : (code unit average : ℕ) → 1 ≤ code → code ≤ 3 → unit ≤ 100000 → ((code ≡ 1 → ⊥) → unit ≤ 500) → cond (eqb code 3) (between 1 10 average) (eqb average 0) ≡ true → length (word_of formula_words code) + length (whole_number unit) + length (whole_number average) ≤ 11
formula_most zero unit average low high flat other e = absurd (omega arith)
formula_most (suc zero) unit average low high flat other e =
    let none = eqb-true average 0 e in
    omega (arith, whole_most 5 unit (omega arith), whole_most 0 average (omega arith))
formula_most (suc (suc zero)) unit average low high flat other e =
    let none = eqb-true average 0 e in
    let small = other (λ same. omega arith) in
    omega (arith, whole_most 2 unit (omega arith), whole_most 0 average (omega arith))
formula_most (suc (suc (suc zero))) unit average low high flat other e =
    let years = between_true 1 10 average e in
    let small = other (λ same. omega arith) in
    omega (arith, whole_most 2 unit (omega arith), whole_most 1 average (omega arith))
formula_most (suc (suc (suc (suc code)))) unit average low high flat other e = absurd (omega arith)

method_most : (code : ℕ) → length (word_of method_words code) ≤ 2
method_most zero = omega arith
method_most (suc zero) = omega arith
method_most (suc (suc zero)) = omega arith
method_most (suc (suc (suc zero))) = omega arith
method_most (suc (suc (suc (suc zero)))) = omega arith
method_most (suc (suc (suc (suc (suc zero))))) = omega arith
method_most (suc (suc (suc (suc (suc (suc code)))))) = omega arith

-- rule 2.6
pub average_kept : (p : Plan) → first_among (head_rules p) ≡ 0 → cond (eqb p.formula 3) (between 1 10 p.average) (eqb p.average 0) ≡ true
unfolding head_rules
average_kept p e =
    let k = all_kept (head_rules p) e in
    kept (cond (eqb p.formula 3) (between 1 10 p.average) (eqb p.average 0)) 11 k.1.1.1.1.1.0

terms_most : (p : Plan) → first_among (head_rules p) ≡ 0 → length (closed_lines (term_lines p)) ≤ 108
unfolding closed_lines term_lines
terms_most p e =
    let h = head_facts p e in
    let pay : p.pay ≤ 12 = ⊎_elim (λ once. omega arith) (λ monthly. omega arith) h.pay in
    simp length-append
    (omega (arith, whole_most 3 p.interest (omega arith), whole_most 1 p.retire (omega arith), whole_most 1 p.pay (omega arith), formula_most p.formula p.unit p.average h.formula.0 h.formula.1 h.flat_unit h.pay_unit (average_kept p e), method_most p.method, amount_most 11 p.assets (omega arith), whole_most 1 p.years (omega arith)))

-- ---- the amendments
-- with the number that it rests on in so many digits
amendment_most : (w : ℕ) {before : List Amendment} (a : Amendment) → Keeps before a → a.rests < 10 ^ suc w → length (amendment_line a) ≤ w + 20
unfolding amendment_line
amendment_most w a k h =
    simp length-append
    (omega (arith, whole_most 2 a.number (omega arith), whole_most w a.rests h, whole_most 5 a.add (omega arith), whole_most 0 a.struck (omega arith)))

-- the first rests on none
first_rests : (a : Amendment) → Keeps [] a → a.rests ≡ 0
first_rests a k = ⊎_elim (λ none. none) (λ some. absurd some.1) k.earlier

-- and any other on a number of three digits at most
later_most : (a : Amendment) (l : List Amendment) → each_refusal [] (a ∷ l) ≡ 0 → (j : ℕ) → j < length l → length (amendment_line (get_or l j a)) ≤ 22
later_most a l e j h =
    let k = keeps_at (a ∷ l) e (take (suc j) (a ∷ l)) (drop (suc j) l) (get_or l j a) (split_at (a ∷ l) (suc j) a (omega arith)) in
    amendment_most 2 (get_or l j a) k (omega arith)

amendments_most : (l : List Amendment) → each_refusal [] l ≡ 0 → length (closed_lines (map amendment_line l)) ≤ 458
unfolding closed_lines
amendments_most [] e = omega arith
amendments_most (a ∷ l) e =
    let first = keeps_at (a ∷ l) e [] l a refl in
    simp length-append
    (omega (arith, few_listed (a ∷ l) e, amendment_most 0 a first (omega (arith, first_rests a first)), each_most 22 amendment_line a l (later_most a l e)))

-- ---- the rows
-- an age in so many digits
row_most : (w age : ℕ) (row : List ℕ) → age < 10 ^ suc w → Sound row → length (row_line age row) ≤ w + 36
unfolding row_line
row_most w age row h sound =
    simp length-append
    (omega (arith, whole_most w age h, whole_most 6 (get_or row 0 0) (omega arith), whole_most 6 (get_or row 1 0) (omega arith), whole_most 6 (get_or row 2 0) (omega arith), whole_most 5 (get_or row 3 0) (omega arith)))

abbrev pub AllSound : List (List ℕ) → Type 0
AllSound rows = (j : ℕ) → j < length rows → Sound (get_or rows j [])

-- so it is with the rows of an accepted plan
pub all_sound : {p : Plan} (rows : List (List ℕ)) → PlanRanges p rows → length rows ≡ ages → AllSound rows
all_sound rows ranges all j h =
    let same : j + 15 - 15 ≡ j = omega arith in
    rw same at (ranges.table (j + 15) (omega arith) (omega arith))

-- ages of three digits at most
old_rows_most : (age : ℕ) (rows : List (List ℕ)) → age + length rows ≤ 1000 → AllSound rows → length (closed_lines (row_lines age rows)) ≤ 39 * length rows
unfolding closed_lines row_lines
old_rows_most age [] h sound = omega arith
old_rows_most age (row ∷ rows) h sound =
    simp length-append
    (omega (arith, row_most 2 age row (omega arith) (sound 0 (omega arith)), old_rows_most (suc age) rows (omega arith) (λ j k. sound (suc j) (omega arith))))

-- the first of them in two: a byte less each
rows_most : (two age : ℕ) (rows : List (List ℕ)) → age + two ≡ 100 → two ≤ length rows → age + length rows ≤ 1000 → AllSound rows → length (closed_lines (row_lines age rows)) + two ≤ 39 * length rows
unfolding closed_lines row_lines
rows_most zero age rows turn some h sound = omega (arith, old_rows_most age rows h sound)
rows_most (suc two) age [] turn some h sound = absurd (omega arith)
rows_most (suc two) age (row ∷ rows) turn some h sound =
    simp length-append
    (omega (arith, row_most 1 age row (omega arith) (sound 0 (omega arith)), rows_most two (suc age) rows (omega arith) (omega arith) (omega arith) (λ j k. sound (suc j) (omega arith))))

-- ---- a member
member_most : (p : Plan) (rows : List (List ℕ)) (before : ℕ) (m : Member) → plan_refusal p rows ≡ 0 → member_refusal p rows before m ≡ 0 → length (member_line m) ≤ 43
unfolding member_line
member_most p rows before m plan e =
    let k = member_facts p rows before m plan e in
    let id = id_small p rows before m e in
    let person = person_range p rows before m e in
    simp length-append
    (omega (arith, whole_most 8 m.id (omega arith), whole_most 8 m.person (omega arith), whole_most 1 m.entry (omega arith), whole_most 1 m.age (omega arith), amount_most 6 m.salary (omega arith)))

-- ---- the file
-- from what is shown of its parts
parts_most : (terms amends rows members : List (List ℕ)) (count : ℕ) → length (closed_lines terms) ≤ 108 → length (closed_lines amends) ≤ 458 → length (closed_lines rows) ≤ 4049 → length (closed_lines members) ≤ 44000 → count ≤ 1000 → length (closed_lines (terms ++ amends ++ rows ++ members ++ end_line count ∷ [])) ≤ most_written
unfolding closed_lines end_line
parts_most terms amends rows members count ht ha hr hm hc =
    simp (both_long, length-append) (omega (arith, whole_most 3 count (omega arith)))

pub written_most : WrittenMost
unfolding written case_lines
written_most c accepted =
    let k = amended_kept c.plan c.amends c.rows accepted.plan in
    let valued = valued_is_accepted c.plan c.amends c.rows accepted.plan in
    let sound = all_sound c.rows (plan_facts (valued_plan c) c.rows valued) accepted.all_ages in
    parts_most (term_lines c.plan) (map amendment_line c.amends) (row_lines 15 c.rows) (map member_line c.members) (length c.members)
    (terms_most c.plan k.0)
    (amendments_most c.amends (list_kept c.plan c.amends k.1).0)
    (omega (arith, rows_most 85 15 c.rows (omega arith) (omega arith) (omega arith) sound))
    (omega (arith, each_most 43 member_line nobody c.members (λ j h. member_most (valued_plan c) c.rows (id_before c.members j) (get_or c.members j nobody) valued (accepted.member j h))))
    accepted.few
