-- The walk's answer, as reading's and as accepting's.
use Prim.Native.Nat.{ℕ}
use mathlib.Core.Path.{◌≡◌, refl}
use mathlib.Core.List.{List}
use mathlib.Core.Bool.{true, false}
use Rattle.std.specs.Prelude.{Result, Ok, Err}
use Rattle.rules.specs.declared.refusals.Refused.{Refused}
use Rattle.rules.specs.Refusals.{number}
use Rattle.rules.specs.Outcome.{Outcome, values, refusal}
use Rattle.walk.specs.Walk.{walk_of}
use Rattle.whole_walk.specs.declared.Outline.{Outline}
use Rattle.whole_walk.specs.Stretch.{WalkIs}
use Rattle.casefile.specs.Answers.{reading_of, accepting_of, accepting, accepted}
use Rattle.casefile.specs.Stored.{amendments_after, rows_after, members_after}

-- ---- reading
module _ (s : List ℕ) (w : Result Outline Refused) (list rows members : List (List ℕ)) (walked : WalkIs false (walk_of false s) w list rows members) where
  pub whole_read : {o : Outline} → w ≡ Ok o → values tt ≡ reading_of s
  unfolding WalkIs reading_of
  whole_read is = let d = rw is at walked in rw d.way

  pub refused_reading : {e : Refused} → w ≡ Err e → {o : Outcome (Unit {0})} → o ≡ refusal (number e.refusal) e.line → o ≡ reading_of s
  unfolding WalkIs reading_of
  refused_reading is told = let e = rw is at walked in rw (told, e)

-- ---- accepting, with the caller's arrays: copied out where the case is accepted, and else as they were
pub record Accepts (s : List ℕ) (a : Outcome Outline) (list old_list rows old_rows members old_members : List (List ℕ)) : Type 0 where
  pub answer : a ≡ accepting (accepting_of s)
  pub amendments_after : list ≡ amendments_after (accepting_of s) old_list
  pub rows_after : rows ≡ rows_after (accepting_of s) old_rows
  pub members_after : members ≡ members_after (accepting_of s) old_members

module _ (s : List ℕ) (w : Result Outline Refused) (list rows members : List (List ℕ)) (walked : WalkIs true (walk_of true s) w list rows members) (old_list old_rows old_members : List (List ℕ)) where
  pub whole_accepted : {o : Outline} → w ≡ Ok o → Accepts s (values o) list old_list rows old_rows members old_members
  unfolding WalkIs accepting_of
  whole_accepted is =
      let d = rw is at walked in
      record { answer = rw d.way (λ i. accepted (d.plan i) (d.listed i) (d.many i)); amendments_after = rw d.way d.list; rows_after = rw d.way (d.table refl); members_after = rw d.way d.held }

  pub refused_accepting : {e : Refused} → w ≡ Err e → {o : Outcome Outline} → o ≡ refusal (number e.refusal) e.line → Accepts s o old_list old_list old_rows old_rows old_members old_members
  unfolding WalkIs accepting_of
  refused_accepting is told =
      let e = rw is at walked in
      record { answer = rw (told, e); amendments_after = rw e; rows_after = rw e; members_after = rw e }
