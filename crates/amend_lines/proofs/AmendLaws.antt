-- The amendments: the invariant of the loop that reads them.
use Prim.Native.Nat.{ℕ, ◌+◌, ◌≤◌}
use mathlib.Core.Path.{◌≡◌, refl, sym, ap, ◌∙◌}
use mathlib.Core.List.{List, [], ◌∷◌, ◌++◌}
use mathlib.Core.Bool.{Bool, true, false, cond}
use lib.ListN.{length, take, drop, set, length-append}
use lib.Dec.{leb}
use native.Mathlib.Omega.{arith}
use borrow.Author.Tests.{leb-false}
use Rattle.std.specs.Prelude.{Result, Ok, Err}
use Rattle.fields.specs.declared.Fault.{Fault}
use Rattle.fields.specs.declared.Fault.TheVariants.{Wrong, Cut}
use Rattle.fields.specs.Split.{upto_of, past_of}
use Rattle.fields.specs.Values.{Values, line_of}
use Rattle.fields.proofs.AnswerLaws.{GoodLine, is_good, is_wrong, is_cut}
use Rattle.plan.specs.declared.Plan.{Plan}
use Rattle.plan.specs.declared.Amendment.{Amendment}
use Rattle.rules.specs.Rules.{first_among}
use Rattle.plan.specs.Numbers.{plan_from, amendment_from, fields_of}
use Rattle.rules.proofs.RuleLaws.{all_kept}
use Rattle.amendments.specs.Force.{amendments_from}
use Rattle.amendments.specs.Judging.{most_amendments, field_refusal, amendment_refusal, unit_refusal, each_refusal}
use Rattle.amendments.proofs.Keeping.{kept_list}
use Rattle.rules.specs.declared.refusals.Refusal.{Refusal}
use Rattle.rules.specs.declared.refusals.Refused.{Refused}
use Rattle.rules.specs.Refusals.{number, verdict}
use Rattle.rules.proofs.RefusalLaws.{numbered}
use Rattle.rules.specs.Outcome.{refusal}
use Rattle.walk.specs.Settled.{settled}
use Rattle.walk.specs.Lines.{begins, amend_form}
use Rattle.walk.specs.Step.{headed, amending, wrong, right, amend_refusal, amend_line, verdict_of}
use Rattle.walk.specs.Walk.{walk_from}
use Rattle.walk.specs.Kept.{Each}
use Rattle.walk.proofs.NoAdditions.{row_due}
use Rattle.walk.proofs.StepLaws.{each_next}
use Rattle.walk.proofs.Accepted.{amends_kept}
use Rattle.stretches.specs.Heads.{amended}
use Rattle.stretches.specs.Refusing.{plan_line, at_line}
use Rattle.stretches.proofs.StretchLaws.{line_cut, line_wrong, line_either, line_refused, line_passed, next_rest, next_within, plan_refused, plan_passed, rule_refused, rule_passed}
use Rattle.amend_lines.specs.Array.{list_array}
use Rattle.amend_lines.specs.Stretch.{surplus_of, refusal_of, AmendsDone}
use Rattle.amend_lines.proofs.ArrayLaws.{list_next, list_front}
use Rattle.amend_lines.proofs.RefusalLaws.{surplus_some}

-- ---- the loop
-- n amendments are read, and the next line begins at place `at`
pub record AmendsRead (ranges : Bool) (p : Plan) (first : ℕ) (s : List ℕ) (array : List (List ℕ)) (at n : ℕ) : Type 0 where
  pub amends : List Amendment
  pub many : length amends ≡ n
  pub few : n ≤ most_amendments
  pub within : at ≤ length s
  pub held : array ≡ list_array amends
  pub kept : ranges ≡ true → Each amendment_refusal amends
  pub unit : ranges ≡ true → begins (upto_of 10 (drop at s)) ≡ false → unit_refusal p amends ≡ 0
  pub way : (terms : List ℕ) → p ≡ plan_from terms → walk_from ranges first (amending (headed terms)) s ≡ walk_from ranges (first + n) (amending (amended terms amends)) (drop at s)

no_unit : (p : Plan) → unit_refusal p [] ≡ 0
unfolding unit_refusal
no_unit p = refl

pub amends_none : (ranges : Bool) (p : Plan) (first : ℕ) (s : List ℕ) (array : List (List ℕ)) → array ≡ list_array [] → AmendsRead ranges p first s array 0 0
amends_none ranges p first s array empty =
    let here : first + 0 ≡ first = omega arith in
    record { amends = []; many = refl; few = omega arith; within = omega arith; held = empty; kept = λ on. tt; unit = λ on off. no_unit p; way = λ terms is. rw here }

module _ {ranges : Bool} {p : Plan} {first : ℕ} {s : List ℕ} {array : List (List ℕ)} {at n : ℕ} (i : AmendsRead ranges p first s array at n) where
  -- the front of the array is the list so far
  pub front : amendments_from (take n array) ≡ i.amends
  front = ap (λ (a : List (List ℕ)). amendments_from (take n a)) i.held ∙ list_front i.amends i.many i.few

  pub front_kept : ranges ≡ true → each_refusal [] (amendments_from (take n array)) ≡ 0
  front_kept on = rw front ((amends_kept [] i.amends).0 (i.kept on))

  -- no more follow
  pub amends_done : {rest : List ℕ} {b : Bool} → rest ≡ drop at s → b ≡ begins (upto_of 10 rest) → b ≡ false → AmendsDone ranges p first s (first + n) at array
  amends_done cut tested none =
      let off : begins (upto_of 10 (drop at s)) ≡ false = rw (← cut) (sym tested ∙ none) in
      record {
        amends = i.amends;
        few = omega (arith, i.many, i.few);
        held = i.held;
        kept = λ on. kept_list p i.amends ((amends_kept [] i.amends).0 (i.kept on)) (i.unit on off);
        place = omega (arith, i.many);
        within = i.within;
        way = λ terms is. i.way terms is ∙ row_due ranges (first + n) (amended terms i.amends) (drop at s) off;
      }

  -- one more
  module _ (rest : List ℕ) (cut : rest ≡ drop at s) {b : Bool} (starts : b ≡ begins (upto_of 10 rest)) (more_due : b ≡ true) {r : Result (List ℕ × ℕ) Fault} (given : r ≡ line_of amend_form rest) where
    on : begins (upto_of 10 (drop at s)) ≡ true
    on = rw (← cut) (sym starts ∙ more_due)

    read : r ≡ line_of amend_form (drop at s)
    read = rw cut at given

    form : {x : Values} (terms ahead : List ℕ) → amend_form (upto_of 10 (drop at s)) ≡ x → verdict_of (amending (amended terms i.amends)) (upto_of 10 (drop at s)) ahead ≡ amend_line (amended terms i.amends) ahead x
    unfolding verdict_of
    form terms ahead is = rw (on, is)

    module _ (terms : List ℕ) (plan : p ≡ plan_from terms) where
      cut_off : r ≡ Err Cut → walk_from ranges first (amending (headed terms)) s ≡ refusal 2 (first + n)
      cut_off is =
          i.way terms plan ∙ line_cut ranges (first + n) (amending (amended terms i.amends)) (drop at s) (is_cut amend_form (drop at s) read is)

      misread : r ≡ Err Wrong → walk_from ranges first (amending (headed terms)) s ≡ refusal 10 (first + n)
      misread is =
          let w = is_wrong amend_form (drop at s) read is in
          i.way terms plan ∙ line_wrong ranges (first + n) (amending (amended terms i.amends)) (drop at s) w.0 (form terms (upto_of 10 (past_of 10 (drop at s))) w.1)

      -- it isn't read
      pub amends_unread : {e : Refused} → Err e ≡ plan_line r (first + n) → walk_from ranges first (amending (headed terms)) s ≡ refusal (number e.refusal) e.line
      amends_unread is = plan_refused (first + n) (λ j l. walk_from ranges first (amending (headed terms)) s ≡ refusal j l) r is misread cut_off

    -- it is, and its rules are asked
    module _ {a : List ℕ × ℕ} (is : Ok a ≡ plan_line r (first + n)) where
      here : GoodLine (drop at s) a.1
      here = (is_good amend_form (drop at s) read (plan_passed (first + n) r is)).line

      pub amends_place : at + (a.1 + 1) ≤ length s
      amends_place = next_within s at a.1 here

      module _ {m : Amendment} (made : m ≡ amendment_from a.0) {next : List ℕ} {more : Bool} (after : next ≡ drop (at + (a.1 + 1)) s) (tested : more ≡ begins (upto_of 10 next)) (x : Result (Unit {0}) Refusal) (rule : verdict x ≡ refusal_of ranges p (amendments_from (take n array)) m more) where
        abbrev ahead : List ℕ
        ahead = upto_of 10 (past_of 10 (drop at s))

        follows : more ≡ begins ahead
        follows = tested ∙ rw (after ∙ next_rest s at a.1 here)

        line : (terms : List ℕ) → verdict_of (amending (amended terms i.amends)) (upto_of 10 (drop at s)) ahead ≡ cond (leb most_amendments (length i.amends)) (wrong (field_refusal m) 53) (right (amend_refusal (amended terms i.amends) ahead m) (amending (amended terms (i.amends ++ m ∷ []))))
        line terms = form terms ahead (is_good amend_form (drop at s) read (plan_passed (first + n) r is)).is ∙ rw made

        full_line : leb most_amendments (length i.amends) ≡ true → (terms : List ℕ) → verdict_of (amending (amended terms i.amends)) (upto_of 10 (drop at s)) ahead ≡ wrong (field_refusal m) 53
        full_line full terms = line terms ∙ rw full

        room_line : leb most_amendments (length i.amends) ≡ false → (terms : List ℕ) → verdict_of (amending (amended terms i.amends)) (upto_of 10 (drop at s)) ahead ≡ right (amend_refusal (amended terms i.amends) ahead m) (amending (amended terms (i.amends ++ m ∷ [])))
        room_line room terms = line terms ∙ rw room

        judged : verdict x ≡ refusal_of ranges p i.amends m more
        judged = rule ∙ rw front

        same_rules : (terms : List ℕ) → p ≡ plan_from terms → first_among (amendment_refusal i.amends m ∷ cond more 0 (unit_refusal p (i.amends ++ m ∷ [])) ∷ []) ≡ amend_refusal (amended terms i.amends) ahead m
        same_rules terms plan =
            λ j. first_among (amendment_refusal i.amends m ∷ cond (follows j) 0 (unit_refusal (plan j) (i.amends ++ m ∷ [])) ∷ [])

        pub amends_refused : (terms : List ℕ) → p ≡ plan_from terms → {e : Refused} → Err e ≡ at_line x (first + n) → walk_from ranges first (amending (headed terms)) s ≡ refusal (number e.refusal) e.line
        amends_refused terms plan {e} told =
            rule_refused (first + n) (λ j l. walk_from ranges first (amending (headed terms)) s ≡ refusal j l) x told (λ same. pick (sym same) (leb most_amendments (length i.amends)) refl)
          where
            pick : number e.refusal ≡ verdict x → (b : Bool) → leb most_amendments (length i.amends) ≡ b → walk_from ranges first (amending (headed terms)) s ≡ refusal (number e.refusal) (first + n)
            pick same true full =
                let q : number e.refusal ≡ surplus_of ranges m = same ∙ judged ∙ rw full in
                i.way terms plan ∙ line_either ranges (first + n) (amending (amended terms i.amends)) (drop at s) here.has (full_line full terms) ∙ ap (λ (j : ℕ). refusal j (first + n)) (sym q)
            pick same false room =
                let q : number e.refusal ≡ settled ranges (amend_refusal (amended terms i.amends) ahead m) = (same ∙ judged ∙ rw room) ∙ ap (settled ranges) (same_rules terms plan) in
                i.way terms plan ∙ line_refused ranges (first + n) (amending (amended terms i.amends)) (drop at s) here.has (room_line room terms) q (numbered e.refusal)

        pub amends_next : {u : Unit {0}} → Ok u ≡ at_line x (first + n) → {array' : List (List ℕ)} → array' ≡ set array n (fields_of m) → AmendsRead ranges p first s array' (at + (a.1 + 1)) (n + 1)
        amends_next told {array'} put = pick (rule_passed (first + n) x told) (leb most_amendments (length i.amends)) refl
          where
            pick : verdict x ≡ 0 → (b : Bool) → leb most_amendments (length i.amends) ≡ b → AmendsRead ranges p first s array' (at + (a.1 + 1)) (n + 1)
            pick none true full = absurd (surplus_some ranges m (sym (judged ∙ rw full) ∙ none))
            pick none false room =
                let low = leb-false most_amendments (length i.amends) room in
                let long = length-append i.amends (m ∷ []) in
                let place : first + n + 1 ≡ first + (n + 1) = omega arith in
                let e' : verdict x ≡ settled ranges (first_among (amendment_refusal i.amends m ∷ cond more 0 (unit_refusal p (i.amends ++ m ∷ [])) ∷ [])) = judged ∙ rw room in
                let kept : ranges ≡ true → (amendment_refusal i.amends m ≡ 0) × (cond more 0 (unit_refusal p (i.amends ++ m ∷ [])) ≡ 0) = λ on. let k = all_kept (amendment_refusal i.amends m ∷ cond more 0 (unit_refusal p (i.amends ++ m ∷ [])) ∷ []) (sym (e' ∙ rw on) ∙ none) in (k.0, k.1.0) in
                record {
                  amends = i.amends ++ m ∷ [];
                  many = omega (arith, long, i.many);
                  few = omega (arith, low, i.many);
                  within = next_within s at a.1 here;
                  held = put ∙ rw i.held (list_next i.amends m i.many);
                  kept = λ on. (each_next amendment_refusal [] i.amends m).1 (i.kept on, (kept on).0);
                  unit = λ on off. let shut : more ≡ false = tested ∙ rw after off in rw shut at (kept on).1;
                  way = λ terms plan. rw (← place) (i.way terms plan ∙ line_passed ranges (first + n) (amending (amended terms i.amends)) (drop at s) here.has (room_line room terms) (e' ∙ ap (settled ranges) (same_rules terms plan)) none (next_rest s at a.1 here));
                }
