-- A list of amendments that adds nothing changes nothing but the line numbers.
use Prim.Native.Nat.{ℕ, ◌+◌}
use mathlib.Core.Path.{◌≡◌, refl, sym, ap, ◌∙◌}
use mathlib.Core.List.{List, [], ◌∷◌, ◌++◌}
use mathlib.Core.Bool.{Bool, true, false, cond}
use lib.ListN.{length}
use lib.Dec.{eqb, leb, eqb-suc-zero}
use native.Mathlib.Omega.{arith}
use Rattle.fields.specs.Split.{has_of, upto_of}
use Rattle.fields.specs.Values.{Values, found, misread}
use Rattle.rates.specs.Table.{ages}
use Rattle.plan.specs.declared.Plan.{Plan}
use Rattle.plan.specs.declared.Amendment.{Amendment}
use Rattle.plan.specs.declared.Member.{Member}
use Rattle.rules.specs.Refusals.{wrong_count}
use Rattle.plan.specs.Numbers.{plan_from}
use Rattle.amendments.specs.Force.{in_force_after, in_force, additions}
use Rattle.amendments.proofs.Putting.{no_additions}
use Rattle.rule_order.specs.Acceptance.{person_sum, line_refusal}
use Rattle.rules.specs.Outcome.{Outcome, values, refusal, and_then}
use Rattle.walk.specs.Settled.{settled}
use Rattle.walk.specs.Lines.{begins, due_age, row_form, Tail, listed, end, surplus, neither, most_members, tail_of}
use Rattle.walk.specs.Step.{Head, plan_in, headed, State, amending, table, people, ended, Verdict, wrong, right, row_line, last_id, tail_line, verdict_of, judged, step}
use Rattle.walk.specs.Walk.{Case, lines_of, rest_of, next_of, closed, folded, walk_from}
use Rattle.walk.specs.Answers.{moved_down, NoAdditionsMove}
use Rattle.walk.proofs.LineLaws.{along, along_cons, from_line, from_end}

-- a line that is no amendment's is a row's
pub row_due : (ranges : Bool) (k : ℕ) (h : Head) (s : List ℕ) → begins (upto_of 10 s) ≡ false → walk_from ranges k (amending h) s ≡ walk_from ranges k (table h) s
unfolding step verdict_of
row_due ranges k h s off = pick (has_of 10 s) refl
  where
    pick : (b : Bool) → has_of 10 s ≡ b → walk_from ranges k (amending h) s ≡ walk_from ranges k (table h) s
    pick true has = from_line ranges k (amending h) s has ∙ rw off (sym (from_line ranges k (table h) s has))
    pick false none = from_end ranges k (amending h) s none ∙ sym (from_end ranges k (table h) s none)

none_added : additions (in_force []) ≡ 0
unfolding additions in_force_after
none_added = refl

module _ (l : List Amendment) (nothing : additions (in_force l) ≡ 0) where
  -- what the lines hold, with the list in place of none
  abbrev bare : List ℕ → List (List ℕ) → Head
  bare terms rows = record { terms = terms; amends = []; rows = rows }

  abbrev full : List ℕ → List (List ℕ) → Head
  full terms rows = record { terms = terms; amends = l; rows = rows }

  same_plan : (terms : List ℕ) (rows : List (List ℕ)) → plan_in (full terms rows) ≡ plan_in (bare terms rows)
  same_plan terms rows = no_additions (plan_from terms) l nothing ∙ sym (no_additions (plan_from terms) [] none_added)

  data Alike : State → State → Type 0 where
    tables : (terms : List ℕ) (rows : List (List ℕ)) → Alike (table (bare terms rows)) (table (full terms rows))
    peoples : (terms : List ℕ) (rows : List (List ℕ)) (members : List Member) → Alike (people (bare terms rows) members) (people (full terms rows) members)
    endeds : (terms : List ℕ) (rows : List (List ℕ)) (members : List Member) → Alike (ended (bare terms rows) members) (ended (full terms rows) members)

  abbrev Said : Verdict → Verdict → Type 0
  Said (wrong r n) (wrong r' n') = (r' ≡ r) × (n' ≡ n)
  Said (wrong r n) (right r' next') = ⊥
  Said (right r next) (wrong r' n') = ⊥
  Said (right r next) (right r' next') = (r' ≡ r) × Alike next next'

  row_alike : (terms : List ℕ) (rows : List (List ℕ)) (x : Values) → Said (row_line (bare terms rows) x) (row_line (full terms rows) x)
  row_alike terms rows misread = (refl, refl)
  row_alike terms rows (found row) = (refl, pick (eqb (length (rows ++ row ∷ [])) ages))
    where
      pick : (b : Bool) → Alike (cond b (people (bare terms (rows ++ row ∷ [])) []) (table (bare terms (rows ++ row ∷ [])))) (cond b (people (full terms (rows ++ row ∷ [])) []) (table (full terms (rows ++ row ∷ []))))
      pick true = peoples terms (rows ++ row ∷ []) []
      pick false = tables terms (rows ++ row ∷ [])

  tail_alike : (terms : List ℕ) (rows : List (List ℕ)) (members : List Member) (x : Tail) → Said (tail_line (bare terms rows) members x) (tail_line (full terms rows) members x)
  tail_alike terms rows members (listed m) =
      (ap (λ (p : Plan). line_refusal p rows (last_id members) (person_sum p rows m.person members) m) (same_plan terms rows), peoples terms rows (members ++ m ∷ []))
  tail_alike terms rows members (end n) = pick (eqb n (length members))
    where
      pick : (b : Bool) → Said (cond b (right 0 (ended (bare terms rows) members)) (wrong 0 wrong_count)) (cond b (right 0 (ended (full terms rows) members)) (wrong 0 wrong_count))
      pick true = (refl, endeds terms rows members)
      pick false = (refl, refl)
  tail_alike terms rows members surplus = (refl, refl)
  tail_alike terms rows members neither = (refl, refl)

  line_alike : {state state' : State} → Alike state state' → (line ahead : List ℕ) → Said (verdict_of state line ahead) (verdict_of state' line ahead)
  unfolding verdict_of
  line_alike (tables terms rows) line ahead = row_alike terms rows (row_form (due_age rows) line)
  line_alike (peoples terms rows members) line ahead = tail_alike terms rows members (tail_of (leb most_members (length members)) line)
  line_alike (endeds terms rows members) line ahead = (refl, refl)

  closed_moved : {state state' : State} → Alike state state' → (k : ℕ) (rest : List ℕ) → closed (k + length l) rest state' ≡ moved_down l (closed k rest state)
  closed_moved (tables terms rows) k rest = refl
  closed_moved (peoples terms rows members) k rest = refl
  closed_moved (endeds terms rows members) k [] = refl
  closed_moved (endeds terms rows members) k (b ∷ rest) = simp (eqb-suc-zero (length rest))

  module _ (ranges : Bool) (k : ℕ) (f f' : State → Outcome Case) (on : (state state' : State) → Alike state state' → f' state' ≡ moved_down l (f state)) where
    said_moved : (x x' : Verdict) → Said x x' → and_then (judged ranges (k + length l) x') f' ≡ moved_down l (and_then (judged ranges k x) f)
    said_moved (wrong r n) (wrong r' n') same = rw (same.0, same.1) (pick (eqb (settled ranges r) 0))
      where
        pick : (b : Bool) → and_then (cond b (refusal n (k + length l)) (refusal (settled ranges r) (k + length l))) f' ≡ moved_down l (and_then (cond b (refusal n k) (refusal (settled ranges r) k)) f)
        pick true = refl
        pick false = refl
    said_moved (wrong r n) (right r' next') same = absurd same
    said_moved (right r next) (wrong r' n') same = absurd same
    said_moved (right r next) (right r' next') same = rw same.0 (pick (eqb (settled ranges r) 0))
      where
        pick : (b : Bool) → and_then (cond b (values next') (refusal (settled ranges r) (k + length l))) f' ≡ moved_down l (and_then (cond b (values next) (refusal (settled ranges r) k)) f)
        pick true = on next next' same.1
        pick false = refl

  along_moved : (ranges : Bool) (rest : List ℕ) (lines : List (List ℕ)) (k : ℕ) {state state' : State} → Alike state state' → along ranges rest (k + length l) state' lines ≡ moved_down l (along ranges rest k state lines)
  unfolding folded step
  along_moved ranges rest [] k a =
      let here : k + length l + 0 ≡ k + 0 + length l = omega arith in
      rw here (closed_moved a (k + 0) rest)
  along_moved ranges rest (line ∷ lines) k {state} {state'} a =
      let there : k + length l + 1 ≡ k + 1 + length l = omega arith in
      along_cons ranges rest (k + length l) state' line lines
      ∙ rw there (said_moved ranges k (λ next. along ranges rest (k + 1) next lines) (λ next. along ranges rest (k + 1 + length l) next lines) (λ next next' b. along_moved ranges rest lines (k + 1) b) (verdict_of state line (next_of rest lines)) (verdict_of state' line (next_of rest lines)) (line_alike a line (next_of rest lines)))
      ∙ ap (moved_down l) (sym (along_cons ranges rest k state line lines))

pub no_additions_move : NoAdditionsMove
unfolding walk_from
no_additions_move ranges k terms l s nothing off =
    row_due ranges (k + length l) (record { terms = terms; amends = l; rows = [] }) s off
    ∙ along_moved l nothing ranges (rest_of s) (lines_of s) k (tables terms [])
    ∙ ap (moved_down l) (sym (row_due ranges k (headed terms) s off))
