-- The rows: the invariant of the loop that reads them.
use Prim.Native.Nat.{ℕ, ◌+◌, ◌-◌, ◌≤◌, ◌<◌}
use mathlib.Core.Path.{◌≡◌, refl, sym, ap, ◌∙◌}
use mathlib.Core.List.{List, [], ◌∷◌, ◌++◌, map, map-append}
use mathlib.Core.Bool.{Bool, true, ◌&&◌}
use lib.ListN.{length, get_or, take, drop, set, length-set, length-append}
use lib.Seq.{take-suc-set, take_all, get_or_at}
use lib.Dec.{leb}
use native.Mathlib.Omega.{arith}
use native.Mathlib.Numerals.{add-one}
use native.Mathlib.Nat.{min-eq_left}
use borrow.Author.Tests.{eq-eqb, ne_eqb, leb-true}
use Rattle.std.specs.Prelude.{Result, Ok, Err}
use Rattle.fields.specs.declared.Fault.{Fault}
use Rattle.fields.specs.declared.Fault.TheVariants.{Wrong, Cut}
use Rattle.fields.specs.Split.{upto_of, past_of}
use Rattle.fields.specs.Values.{Values, line_of}
use Rattle.fields.proofs.SplitLaws.{and_true_left, and_true_right}
use Rattle.fields.proofs.AnswerLaws.{is_good, is_wrong, is_cut}
use Rattle.rates.specs.Table.{ages}
use Rattle.rules.specs.Rules.{first_among, between}
use Rattle.row_rules.specs.Table.{row_rules, row_numbers, weight_before}
use Rattle.row_rules.proofs.TableLaws.{weight_passed}
use Rattle.rules.proofs.RuleLaws.{all_kept, kept}
use Rattle.plan.specs.declared.Amendment.{Amendment}
use Rattle.rules.specs.declared.refusals.Refusal.{Refusal}
use Rattle.rules.specs.declared.refusals.Refused.{Refused}
use Rattle.rules.specs.Refusals.{number, verdict}
use Rattle.rules.proofs.RefusalLaws.{numbered}
use Rattle.rules.specs.Outcome.{refusal}
use Rattle.walk.specs.Settled.{settled}
use Rattle.walk.specs.Lines.{row_form, due_age, row_refusal}
use Rattle.walk.specs.Step.{table, right, with_row, after_row, row_line, verdict_of}
use Rattle.walk.specs.Walk.{walk_from}
use Rattle.walk.specs.Kept.{Each}
use Rattle.walk.proofs.StepLaws.{each_next}
use Rattle.stretches.specs.Heads.{amended, tabled}
use Rattle.stretches.specs.Refusing.{plan_line, at_line}
use Rattle.stretches.proofs.StretchLaws.{line_cut, line_wrong, line_refused, line_passed, next_rest, next_within, plan_refused, plan_passed, rule_refused, rule_passed}
use Rattle.rows.specs.Narrow.{narrow_of}
use Rattle.rows.specs.Stretch.{RowsDone}
use Rattle.rows.proofs.LineLaws.{row_long}

four : (v : List ℕ) → length v ≡ 4 → v ≡ get_or v 0 0 ∷ get_or v 1 0 ∷ get_or v 2 0 ∷ get_or v 3 0 ∷ []
four [] h = absurd (omega arith)
four (a ∷ []) h = absurd (omega arith)
four (a ∷ b ∷ []) h = absurd (omega arith)
four (a ∷ b ∷ c ∷ []) h = absurd (omega arith)
four (a ∷ b ∷ c ∷ d ∷ []) h = refl
four (a ∷ b ∷ c ∷ d ∷ e ∷ v) h = absurd (omega arith)

-- a row that keeps the rules fits 32 bits
row_narrow : (age before : ℕ) (row : List ℕ) → length row ≡ 4 → first_among (row_rules age before (row_numbers row)) ≡ 0 → map narrow_of row ≡ row
unfolding row_rules
row_narrow age before row size e =
    let r = row_numbers row in
    let k = all_kept (row_rules age before r) e in
    let rates = kept (leb r.death 1000000 && (leb r.withdrawal 1000000 && leb r.disability 1000000)) 10 k.0 in
    let others = and_true_right (leb r.death 1000000) (leb r.withdrawal 1000000 && leb r.disability 1000000) rates in
    let scale = and_true_left (between 1000 100000 r.weight) (leb before r.weight) (kept (between 1000 100000 r.weight && leb before r.weight) 14 k.1.1.0) in
    let hd : r.death ≤ 1000000 = leb-true _ _ (and_true_left (leb r.death 1000000) (leb r.withdrawal 1000000 && leb r.disability 1000000) rates) in
    let hw : r.withdrawal ≤ 1000000 = leb-true _ _ (and_true_left (leb r.withdrawal 1000000) (leb r.disability 1000000) others) in
    let hi : r.disability ≤ 1000000 = leb-true _ _ (and_true_right (leb r.withdrawal 1000000) (leb r.disability 1000000) others) in
    let hz : r.weight ≤ 100000 = leb-true _ _ (and_true_right (leb 1000 r.weight) (leb r.weight 100000) scale) in
    ap (map narrow_of) (four row size)
    ∙ rw (min-eq_left {n = r.death} {m = 4294967295} (omega arith), min-eq_left {n = r.withdrawal} {m = 4294967295} (omega arith), min-eq_left {n = r.disability} {m = 4294967295} (omega arith), min-eq_left {n = r.weight} {m = 4294967295} (omega arith))
    (sym (four row size))

weight_next : (rows : List (List ℕ)) (r : List ℕ) → due_age rows ≤ 120 → weight_before (rows ++ r ∷ []) (due_age rows + 1) ≡ get_or r 3 0
weight_next rows r old =
    let place : length rows ≡ due_age rows - 15 = omega arith in
    sym (weight_passed (rows ++ r ∷ []) (due_age rows) old (omega arith)) ∙ ap (λ (row : List ℕ). get_or row 3 0) (get_or_at rows r [] [] (due_age rows - 15) place)

-- k rows are read, the next line is `line`, and it begins at place `at`. `rows` is what the lines hold, as wide as it stands there
pub record RowsRead (ranges : Bool) (first : ℕ) (s : List ℕ) (array : List (List ℕ)) (line at k before : ℕ) : Type 0 where
  pub rows : List (List ℕ)
  pub many : length rows ≡ k
  pub size : length array ≡ 106
  pub few : k ≤ 106
  pub place : line ≡ first + k
  pub within : at ≤ length s
  pub weighed : before ≡ weight_before rows (k + 15)
  pub held : take k array ≡ map (map narrow_of) rows
  pub exact : ranges ≡ true → map (map narrow_of) rows ≡ rows
  pub kept : ranges ≡ true → Each row_refusal rows
  pub way : (t : List ℕ) (l : List Amendment) → walk_from ranges first (table (amended t l)) s ≡ walk_from ranges line (after_row (tabled t l rows)) (drop at s)

pub rows_none : (ranges : Bool) (first : ℕ) (s : List ℕ) (array : List (List ℕ)) → length array ≡ 106 → RowsRead ranges first s array first 0 0 0
rows_none ranges first s array size =
    record { rows = []; many = refl; size = size; few = omega arith; place = omega arith; within = omega arith; weighed = refl; held = refl; exact = λ on. refl; kept = λ on. tt; way = λ t l. refl }

-- the next line
module _ {ranges : Bool} {first : ℕ} {s : List ℕ} {array : List (List ℕ)} {line at k before : ℕ} (i : RowsRead ranges first s array line at k before) (more : k < 106) (rest : List ℕ) (cut : rest ≡ drop at s) {r : Result (List ℕ × ℕ) Fault} (given : r ≡ line_of (row_form (k + 15)) rest) where
  read : r ≡ line_of (row_form (k + 15)) (drop at s)
  read = rw cut at given

  module _ (t : List ℕ) (l : List Amendment) where
    due : walk_from ranges first (table (amended t l)) s ≡ walk_from ranges line (table (tabled t l i.rows)) (drop at s)
    due = i.way t l ∙ simp (ne_eqb (length i.rows) ages (λ e. omega (arith, i.many)))

    form : {x : Values} (ahead : List ℕ) → row_form (k + 15) (upto_of 10 (drop at s)) ≡ x → verdict_of (table (tabled t l i.rows)) (upto_of 10 (drop at s)) ahead ≡ row_line (tabled t l i.rows) x
    unfolding verdict_of
    form ahead is = rw (i.many, is)

    cut_off : r ≡ Err Cut → walk_from ranges first (table (amended t l)) s ≡ refusal 2 line
    cut_off is = due ∙ line_cut ranges line (table (tabled t l i.rows)) (drop at s) (is_cut (row_form (k + 15)) (drop at s) read is)

    misread : r ≡ Err Wrong → walk_from ranges first (table (amended t l)) s ≡ refusal 10 line
    misread is =
        let w = is_wrong (row_form (k + 15)) (drop at s) read is in
        due ∙ line_wrong ranges line (table (tabled t l i.rows)) (drop at s) w.0 (form (upto_of 10 (past_of 10 (drop at s))) w.1)

    -- it isn't read
    pub rows_unread : {e : Refused} → Err e ≡ plan_line r line → walk_from ranges first (table (amended t l)) s ≡ refusal (number e.refusal) e.line
    rows_unread is = plan_refused line (λ n j. walk_from ranges first (table (amended t l)) s ≡ refusal n j) r is misread cut_off

  -- it is, and its rules are asked
  module _ {a : List ℕ × ℕ} (is : Ok a ≡ plan_line r line) where
    pub rows_place : at + (a.1 + 1) ≤ length s
    rows_place = next_within s at a.1 (is_good (row_form (k + 15)) (drop at s) read (plan_passed line r is)).line

    module _ (x : Result (Unit {0}) Refusal) (rule : verdict x ≡ settled ranges (first_among (row_rules (k + 15) before (row_numbers a.0)))) where
      judged : verdict x ≡ settled ranges (row_refusal i.rows a.0)
      judged = rule ∙ rw (i.weighed, i.many)

      good : (t : List ℕ) (l : List Amendment) → verdict_of (table (tabled t l i.rows)) (upto_of 10 (drop at s)) (upto_of 10 (past_of 10 (drop at s))) ≡ right (row_refusal i.rows a.0) (after_row (with_row (tabled t l i.rows) a.0))
      good t l = form t l (upto_of 10 (past_of 10 (drop at s))) (is_good (row_form (k + 15)) (drop at s) read (plan_passed line r is)).is

      pub rows_refused : (t : List ℕ) (l : List Amendment) {e : Refused} → Err e ≡ at_line x line → walk_from ranges first (table (amended t l)) s ≡ refusal (number e.refusal) e.line
      rows_refused t l {e} told =
          rule_refused line (λ n j. walk_from ranges first (table (amended t l)) s ≡ refusal n j) x told (λ same. due t l ∙ line_refused ranges line (table (tabled t l i.rows)) (drop at s) (is_good (row_form (k + 15)) (drop at s) read (plan_passed line r is)).line.has (good t l) (sym same ∙ judged) (numbered e.refusal))

      pub rows_next : {u : Unit {0}} → Ok u ≡ at_line x line → {row : List ℕ} → row ≡ map narrow_of a.0 → RowsRead ranges first s (set array k row) (line + 1) (at + (a.1 + 1)) (k + 1) (get_or a.0 3 0)
      rows_next told {row} narrow =
          let size = row_long (k + 15) (upto_of 10 (drop at s)) (is_good (row_form (k + 15)) (drop at s) read (plan_passed line r is)).is in
          let g = (is_good (row_form (k + 15)) (drop at s) read (plan_passed line r is)).line in
          let none : 0 ≡ settled ranges (row_refusal i.rows a.0) = sym (rule_passed line x told) ∙ judged in
          let long = length-append i.rows (a.0 ∷ []) in
          let stored : take (k + 1) (set array k row) ≡ take k array ++ row ∷ [] = rw (add-one k) (take-suc-set array k row (omega (arith, i.size))) in
          let older : k + 1 + 15 ≡ due_age i.rows + 1 = omega (arith, i.many) in
          record {
            rows = i.rows ++ a.0 ∷ [];
            many = omega (arith, i.many, long);
            size = length-set array k row ∙ i.size;
            few = omega arith;
            place = omega (arith, i.place);
            within = next_within s at a.1 g;
            weighed = rw older (sym (weight_next i.rows a.0 (omega (arith, i.many))));
            held = stored ∙ rw (i.held, narrow) (sym (map-append (map narrow_of) i.rows (a.0 ∷ [])));
            exact = λ on. map-append (map narrow_of) i.rows (a.0 ∷ []) ∙ rw (i.exact on, row_narrow (k + 15) before a.0 size (sym (rule ∙ rw on) ∙ rule_passed line x told));
            kept = λ on. (each_next row_refusal [] i.rows a.0).1 (i.kept on, sym (none ∙ rw on));
            way = λ t l. due t l ∙ line_passed ranges line (table (tabled t l i.rows)) (drop at s) g.has (good t l) none refl (next_rest s at a.1 g);
          }

-- all are read
pub rows_done : {ranges : Bool} {first : ℕ} {s : List ℕ} {array : List (List ℕ)} {line at k before : ℕ} (i : RowsRead ranges first s array line at k before) → 106 ≤ k → RowsDone ranges first s line at array
rows_done {array = array} {k = k} i all =
    let full : length i.rows ≡ ages = omega (arith, i.many, i.few) in
    record {
      rows = i.rows;
      size = full;
      kept = i.kept;
      exact = λ on. sym (take_all k array (omega (arith, i.size))) ∙ i.held ∙ i.exact on;
      place = omega (arith, i.place, i.few);
      within = i.within;
      way = λ t l. i.way t l ∙ simp (eq-eqb (length i.rows) ages full);
    }
