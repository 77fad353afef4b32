-- The parts one after the other: the table and the members after the amendments, the amendments after the terms, and the whole walk.
use Prim.Native.Nat.{ℕ, ◌-◌, ◌≤◌, ◌<◌}
use mathlib.Core.Path.{◌≡◌, sym, ap, ◌∙◌}
use mathlib.Core.List.{List, []}
use mathlib.Core.Bool.{Bool, true}
use lib.ListN.{length, take, drop}
use native.Mathlib.Omega.{arith}
use borrow.Author.Tests.{lt-ltb, le-ltb}
use Rattle.plan.specs.declared.Plan.{Plan}
use Rattle.plan.specs.declared.Amendment.{Amendment}
use Rattle.plan.specs.Numbers.{plan_from}
use Rattle.amendments.specs.Force.{amendments_from, as_valued}
use Rattle.amendments.proofs.Keeping.{list_kept}
use Rattle.rule_order.specs.Acceptance.{plan_refusal}
use Rattle.rule_order.proofs.ValuedLaws.{valued_is_accepted}
use Rattle.std.specs.declared.result.Result.{Result}
use Rattle.std.specs.declared.result.Result.TheVariants.{Ok, Err}
use Rattle.rules.specs.declared.refusals.Refused.{Refused}
use Rattle.rules.specs.Outcome.{refusal}
use Rattle.walk.specs.Terms.{term_forms}
use Rattle.walk.specs.Step.{Head, headed, amending}
use Rattle.walk.specs.Walk.{case_of, start, walk_from, walk_of}
use Rattle.walk.proofs.Accepted.{amends_kept, plan_kept}
use Rattle.stretches.specs.declared.Next.{Next}
use Rattle.stretches.specs.Heads.{amended, tabled}
use Rattle.heading.specs.Stretch.{HeadKept, HeadDone, HeadIs}
use Rattle.amend_lines.specs.Stretch.{AmendsDone, AmendsAre}
use Rattle.amend_lines.proofs.ArrayLaws.{list_front, list_size}
use Rattle.rows.specs.Stretch.{RowsDone, RowsAre}
use Rattle.members.specs.Stretch.{SameHead, MembersDone, MembersAre}
use Rattle.whole_walk.specs.declared.Outline.{Outline}
use Rattle.whole_walk.specs.Stretch.{ListKept, TableDone, TableIs, WalkIs}

-- ---- after the amendments
module _ (ranges : Bool) (first : ℕ) (s : List ℕ) (array : List (List ℕ)) where
  pub table_refused : {e : Refused} → RowsAre ranges first s (Err e) array → (terms : List ℕ) (amends : List Amendment) (members : List (List ℕ)) {r : Result ℕ Refused} → r ≡ Err e → TableIs ranges (amended terms amends) first s r array members
  unfolding RowsAre TableIs
  table_refused rows terms amends members is = rw is (rows terms amends)

  pub rows_are : {next : Next} → RowsAre ranges first s (Ok next) array → RowsDone ranges first s next.line next.at array
  unfolding RowsAre
  rows_are rows = rows

  module _ (next : Next) (rows : RowsAre ranges first s (Ok next) array) (terms : List ℕ) (head : HeadKept ranges terms) (list : List (List ℕ)) (kept : ListKept ranges terms list) {p : Plan} (plan : ranges ≡ true → p ≡ as_valued (plan_from terms) (amendments_from list)) where
    -- what accepting a member asks for
    pub plan_accepted : ranges ≡ true → plan_refusal p array ≡ 0
    plan_accepted on =
        let d = rows_are rows in
        let amends = amendments_from list in
        let l = list_kept (plan_from terms) amends (kept on) in
        rw (plan on, d.exact on)
        (valued_is_accepted (plan_from terms) amends d.rows ((plan_kept terms amends d.rows head.size d.size).1 (head.kept on, (amends_kept [] amends).1 l.0, l.1, d.kept on)))

    pub table_is : (r : Result ℕ Refused) (members : List (List ℕ)) → ((h : Head) → SameHead ranges p array h → MembersAre ranges h next.line (drop next.at s) r members) → TableIs ranges (amended terms (amendments_from list)) first s r array members
    unfolding MembersAre TableIs
    table_is r members rest_is =
        let d = rows_are rows in
        go r (rest_is (tabled terms (amendments_from list) d.rows) (λ on. (plan on, d.exact on)))
      where
        whole : (n : ℕ) → MembersDone ranges (tabled terms (amendments_from list) (rows_are rows).rows) next.line (drop next.at s) n members → TableDone ranges (amended terms (amendments_from list)) first s n array members
        whole n m =
            let d = rows_are rows in
            record { rows = d.rows; listed = m.members; way = d.way terms (amendments_from list) ∙ m.way; many = m.many; table = d.exact; held = m.held }

        go : (r : Result ℕ Refused) → MembersAre ranges (tabled terms (amendments_from list) (rows_are rows).rows) next.line (drop next.at s) r members → TableIs ranges (amended terms (amendments_from list)) first s r array members
        go (Ok n) m = whole n m
        go (Err e) m = (rows_are rows).way terms (amendments_from list) ∙ m

-- ---- after the terms
module _ (ranges : Bool) (first : ℕ) (s : List ℕ) (terms : List ℕ) {p : Plan} (plan : p ≡ plan_from terms) (list : List (List ℕ)) where
  pub list_refused : {e : Refused} → AmendsAre ranges p first s (Err e) list → (rows members : List (List ℕ)) {r : Result Outline Refused} → r ≡ Err e → WalkIs ranges (walk_from ranges first (amending (headed terms)) s) r list rows members
  unfolding AmendsAre WalkIs
  list_refused listed rows members is = rw is (listed terms plan)

  module _ (next : Next) (listed : AmendsAre ranges p first s (Ok next) list) where
    pub list_are : AmendsDone ranges p first s next.line next.at list
    unfolding AmendsAre
    list_are = listed

    pub list_count : (next.line - first ≡ length list_are.amends) × (first ≤ next.line)
    list_count = let d = list_are in (omega (arith, d.place), omega (arith, d.place))

    pub list_room : next.line - first ≤ length list
    list_room = let d = list_are in omega (arith, list_count.0, d.few, ap length d.held ∙ list_size d.amends)

    -- the front of the array is the list
    pub list_is : amendments_from (take (next.line - first) list) ≡ list_are.amends
    list_is = let d = list_are in ap (λ (l : List (List ℕ)). amendments_from (take (next.line - first) l)) d.held ∙ list_front d.amends (sym list_count.0) (omega (arith, list_count.0, d.few))

    pub list_keeps : ListKept ranges terms (take (next.line - first) list)
    list_keeps on = rw (list_is, ← plan) (list_are.kept on)

    module _ (rows members : List (List ℕ)) where
      pub list_whole : (n : ℕ) → TableIs ranges (amended terms (amendments_from (take (next.line - first) list))) next.line (drop next.at s) (Ok n) rows members → WalkIs ranges (walk_from ranges first (amending (headed terms)) s) (Ok (record { plan = p; amendments = next.line - first; members = n })) list rows members
      unfolding TableIs WalkIs
      list_whole n rest_is =
          let d = list_are in
          let t = rw list_is at rest_is in
          record {
            case = case_of (tabled terms d.amends t.rows) t.listed;
            way = d.way terms plan ∙ t.way;
            plan = plan;
            listed = list_count.0;
            list = d.held;
            many = t.many;
            table = t.table;
            held = t.held;
          }

      pub list_later : (e : Refused) {r : Result Outline Refused} → TableIs ranges (amended terms (amendments_from (take (next.line - first) list))) next.line (drop next.at s) (Err e) rows members → r ≡ Err e → WalkIs ranges (walk_from ranges first (amending (headed terms)) s) r list rows members
      unfolding TableIs WalkIs
      list_later e rest_is is = rw is (list_are.way terms plan ∙ rw list_is at rest_is)

-- ---- the whole file
module _ (ranges : Bool) (s : List ℕ) where
  pub too_large_number : 65536 < length s → walk_of ranges s ≡ refusal 1 0
  unfolding walk_of
  too_large_number h = simp (lt-ltb 65536 (length s) h)

  lines : length s ≤ 65536 → walk_of ranges s ≡ walk_from ranges 1 start s
  unfolding walk_of
  lines small = simp (le-ltb 65536 (length s) small)

  module _ (small : length s ≤ 65536) (terms : List ℕ) where
    pub head_refused : {e : Refused} → HeadIs ranges s (Err e) terms → (list rows members : List (List ℕ)) {r : Result Outline Refused} → r ≡ Err e → WalkIs ranges (walk_of ranges s) r list rows members
    unfolding HeadIs WalkIs
    head_refused head list rows members is = rw is (lines small ∙ head)

    module _ (next : Next) (head : HeadIs ranges s (Ok next) terms) where
      pub head_is : HeadDone ranges s next.line next.at terms
      unfolding HeadIs
      head_is = head

      pub head_low : next.line ≤ 1000
      unfolding term_forms
      head_low = omega (arith, head_is.place)

      -- what the rest of the walk answers is the whole walk's answer
      pub walk_is : (r : Result Outline Refused) (list rows members : List (List ℕ)) → WalkIs ranges (walk_from ranges next.line (amending (headed terms)) (drop next.at s)) r list rows members → WalkIs ranges (walk_of ranges s) r list rows members
      walk_is r list rows members on = rw (lines small ∙ head_is.way) on
