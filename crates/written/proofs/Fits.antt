-- The numbers of a case that keeps the rules are such as are read back: each has 12 digits at most, and a word has its code.
use mathlib.Core.Path.{◌≡◌}
use mathlib.Core.Logic.{⊎_elim}
use mathlib.Core.Bool.{Bool, true, false, cond}
use mathlib.Core.List.{List, [], ◌∷◌, ◌++◌}
use Prim.Native.Nat.{ℕ, suc, ◌+◌, ◌≤◌, ◌<◌}
use native.Mathlib.Omega.{arith}
use borrow.Author.Tests.{eqb-true}
use lib.Dec.{eqb}
use lib.ListN.{length, get_or, length-append}
use Rattle.plan.specs.declared.Plan.{Plan}
use Rattle.plan.specs.declared.Amendment.{Amendment}
use Rattle.plan.specs.declared.Member.{Member}
use Rattle.rules.specs.Rules.{first_among, between}
use Rattle.plan.specs.Numbers.{terms_of}
use Rattle.rules.specs.Heading.{head_rules}
use Rattle.rules.proofs.RuleLaws.{between_true}
use Rattle.amendments.specs.Judging.{each_refusal}
use Rattle.amendments.proofs.Keeping.{list_kept, amendment_facts, each_next}
use Rattle.rule_order.specs.Acceptance.{plan_refusal, member_refusal}
use Rattle.rule_order.proofs.Facts.{head_facts, plan_facts, member_facts, id_small, person_range}
use Rattle.rule_order.proofs.ValuedLaws.{amended_kept, valued_is_accepted}
use Rattle.walk.specs.Lines.{most_members}
use Rattle.walk.specs.Walk.{Case, valued_plan}
use Rattle.walk.specs.Kept.{nobody, id_before, AcceptedCase}
use Rattle.written.proofs.ValueTexts.{Small}
use Rattle.written.proofs.TermTexts.{terms}
use Rattle.written.proofs.LineTexts.{five_of}
use Rattle.written.proofs.Lengths.{average_kept, AllSound, all_sound}
use Rattle.written.proofs.Writing.{TermsFit, AmendsFit, RowsFit, MembersFit}

-- ---- the terms
average_small : (t : Bool) (n : ℕ) → cond t (between 1 10 n) (eqb n 0) ≡ true → n ≤ 10
average_small true n e = (between_true 1 10 n e).1
average_small false n e = omega (arith, eqb-true n 0 e)

terms_fit : (p : Plan) → first_among (head_rules p) ≡ 0 → TermsFit terms (terms_of p)
terms_fit p e =
    let h = head_facts p e in
    let pay : p.pay ≤ 12 = ⊎_elim (λ once. omega arith) (λ monthly. omega arith) h.pay in
    let average = average_small (eqb p.formula 3) p.average (average_kept p e) in
    (omega arith, (omega arith, (omega arith, (h.formula, (omega arith, (omega arith, (h.method, (omega arith, (omega arith, tt)))))))))

-- ---- the amendments
amends_fit : (before l : List Amendment) → each_refusal before l ≡ 0 → AmendsFit (length before) l
amends_fit before [] e = tt
amends_fit before (a ∷ l) e =
    let n = each_next before l a e in
    let f = amendment_facts before a n.0 in
    let size : length (before ++ a ∷ []) ≡ suc (length before) = simp length-append (omega arith) in
    ((f.few, (omega (arith, f.number), (omega (arith, f.rests), (omega (arith, f.add), omega (arith, f.struck))))), rw size at (amends_fit (before ++ a ∷ []) l n.1))

-- ---- the rows
rows_fit : (rows : List (List ℕ)) → AllSound rows → RowsFit rows
rows_fit [] sound = tt
rows_fit (row ∷ rows) sound =
    let s = sound 0 (omega arith) in
    ((omega arith, (omega arith, (omega arith, omega arith))), rows_fit rows (λ j h. sound (suc j) (omega arith)))

-- ---- the members
abbrev AllSmall : List Member → Type 0
AllSmall l = (j : ℕ) → j < length l → Small 100000000000000 4 (five_of (get_or l j nobody))

members_fit : (count : ℕ) (l : List Member) → count + length l ≤ most_members → AllSmall l → MembersFit count l
members_fit count [] few small = tt
members_fit count (m ∷ l) few small =
    ((omega arith, small 0 (omega arith)), members_fit (suc count) l (omega arith) (λ j h. small (suc j) (omega arith)))

member_small : (p : Plan) (rows : List (List ℕ)) (before : ℕ) (m : Member) → plan_refusal p rows ≡ 0 → member_refusal p rows before m ≡ 0 → Small 100000000000000 4 (five_of m)
member_small p rows before m plan e =
    let k = member_facts p rows before m plan e in
    let id = id_small p rows before m e in
    let person = person_range p rows before m e in
    (omega arith, (omega arith, (omega arith, (omega arith, omega arith))))

-- ---- a case
pub record Fits (c : Case) : Type 0 where
  pub terms : TermsFit terms (terms_of c.plan)
  pub amends : AmendsFit 0 c.amends
  pub rows : RowsFit c.rows
  pub members : MembersFit 0 c.members
  pub count : length c.members < 1000000000000

pub case_fits : (c : Case) → AcceptedCase c → Fits c
case_fits c accepted =
    let k = amended_kept c.plan c.amends c.rows accepted.plan in
    let valued = valued_is_accepted c.plan c.amends c.rows accepted.plan in
    let sound = all_sound c.rows (plan_facts (valued_plan c) c.rows valued) accepted.all_ages in
    record {
      terms = terms_fit c.plan k.0;
      amends = amends_fit [] c.amends (list_kept c.plan c.amends k.1).0;
      rows = rows_fit c.rows sound;
      members = members_fit 0 c.members (omega (arith, accepted.few)) (λ j h. member_small (valued_plan c) c.rows (id_before c.members j) (get_or c.members j nobody) valued (accepted.member j h));
      count = omega (arith, accepted.few);
    }
