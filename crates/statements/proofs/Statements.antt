-- The statements of specs/Statements.antt.
use mathlib.Core.Path.{◌≡◌, refl, sym, ap, ◌∙◌}
use mathlib.Core.Bool.{Bool, true, false, cond}
use mathlib.Core.List.{List, [], ◌∷◌, ◌++◌}
use Prim.Native.Nat.{ℕ, suc, ◌+◌, ◌-◌, ◌<◌}
use native.Mathlib.Omega.{arith}
use lib.Dec.{leb}
use lib.ListN.{length, get_or}
use Rattle.rule_order.proofs.Facts.{plan_facts, member_facts}
use Rattle.costs.specs.Demand3.{WithinLimits}
use Rattle.costs.specs.Valuation.{method_of, setting_of, figures_at, figures, valuation}
use Rattle.costs.proofs.Answers.{valued, limited, demand_3_forms, demand_3_sharp_limits}
use Rattle.rules.specs.Outcome.{values, refusal}
use Rattle.walk.specs.Walk.{Case, valued_plan}
use Rattle.walk.specs.Lines.{listed, tail_of}
use Rattle.amendments.specs.Force.{as_valued}
use Rattle.rule_order.proofs.ValuedLaws.{valued_is_accepted}
use Rattle.walk.specs.Kept.{nobody, id_before, AcceptedCase}
use Rattle.walk.proofs.OutcomeLaws.{no_values, values_one, then_values}
use Rattle.walk.proofs.Accepted.{accepted_keeps}
use Rattle.casefile.specs.Answers.{accepting_of}
use Rattle.judging.proofs.Exactly.{refused_exactly}
use Rattle.written.proofs.Theorems.{written_is_accepted}
use Rattle.totals.specs.Totals.{total, unfunded, supplemental}
use Rattle.report.specs.Lines.{member_line, plan_lines, printed}
use Rattle.fitting.specs.Fitting.{fitting}
use Rattle.valuation.specs.Answers.{valued_of}
use Rattle.statements.specs.LinesOf.{lines_past, line_at, lines_before, first_member}
use Rattle.statements.specs.Statements.{EveryMember, MembersAreLines, PlanLines, AllValuedAlike, Independence, TotalsAreSums, TotalsAccuracy, supplemental*, SupplementalAccuracy}
use Rattle.statements.proofs.LineEnds.{member_is_line, member_text, members_done}
use Rattle.statements.proofs.FileLines.{Agree, files_lined, line_past, line_of_member}
use Rattle.statements.proofs.LoneMember.{accepted_alone}
use Rattle.totals.proofs.TotalLaws.{total_one, total_both}
use Rattle.statements.proofs.TotalSums.{sums_close}
use Rattle.statements.proofs.SupplementalLaws.{payment_close}

-- ---- what is printed of an accepted file
fits_whole : (b : Bool) (lines : List ℕ) {out : List ℕ} → cond b (values lines) (refusal 30 0) ≡ values out → out ≡ lines
fits_whole true lines e = sym (values_one e)
fits_whole false lines e = no_values e

printed_of : (s : List ℕ) (room : ℕ) (c : Case) {out : List ℕ} → accepting_of s ≡ values c → valued_of room s ≡ values out → out ≡ printed (valued_plan c) c.rows c.members
unfolding valued_of fitting
printed_of s room c accepted e =
    let lines = printed (valued_plan c) c.rows c.members in
    fits_whole (leb (length lines) room) lines (rw accepted at e)

-- the text of member j's line
module _ (s : List ℕ) (room : ℕ) (c : Case) {out : List ℕ} (accepted : accepting_of s ≡ values c) (fits : valued_of room s ≡ values out) (j : ℕ) (there : j < length c.members) where
  own_text : line_at (1 + j) out ≡ (member_is_line (valued_plan c) c.rows (get_or c.members j nobody)).text
  unfolding line_at printed
  own_text =
      let past : 1 + j - 1 ≡ j = omega arith in
      rw (past, printed_of s room c accepted fits) (member_text (valued_plan c) c.rows c.members _ j there)

-- each member's figures lie within its limits
member_close : (s : List ℕ) (c : Case) → accepting_of s ≡ values c → (j : ℕ) → j < length c.members → WithinLimits (setting_of (valued_plan c) c.rows (get_or c.members j nobody)) (method_of c.plan.method) (get_or c.members j nobody).age
unfolding accepting_of
member_close s c accepted j there =
    let m = get_or c.members j nobody in
    let rules = (accepted_keeps s c accepted).1 in
    let kept = rules.member j there in
    let facts = member_facts (valued_plan c) c.rows (id_before c.members j) m (valued_is_accepted c.plan c.amends c.rows rules.plan) kept in
    demand_3_sharp_limits c.plan c.amends c.rows (id_before c.members j) m (record { plan = rules.plan; member = kept }) (method_of c.plan.method) m.age (omega (arith, facts)) (omega (arith, facts))

-- and are those that it has as plain values
member_alike : (c : Case) → AcceptedCase c → (j : ℕ) → j < length c.members → valuation c.plan c.amends c.rows (get_or c.members j nobody) ≡ values (figures (valued_plan c) c.rows (get_or c.members j nobody))
member_alike c rules j there =
    let m = get_or c.members j nobody in
    sym (valued c.plan c.amends c.rows m (accepted_alone c.plan c.amends c.rows (id_before c.members j) m rules.plan (rules.member j there)) refl)

pub every_member : EveryMember
unfolding member_line accepting_of
every_member s out room c accepted fits j there =
    let m = get_or c.members j nobody in
    let before = id_before c.members j in
    let rules = (accepted_keeps s c accepted).1 in
    let kept = rules.member j there in
    record {
      shown = ap (λ (text : List ℕ). text ++ (10 ∷ [])) (own_text s room c accepted fits j there) ∙ sym (member_is_line (valued_plan c) c.rows m).is;
      alike = member_alike c rules j there;
      limited = limited (valued_plan c) c.rows m (member_facts (valued_plan c) c.rows before m (valued_is_accepted c.plan c.amends c.rows rules.plan) kept) refl;
      close = member_close s c accepted j there;
      forms = demand_3_forms c.plan c.amends c.rows before m (record { plan = rules.plan; member = kept });
    }

pub members_are_lines : MembersAreLines
members_are_lines s c accepted =
    let n = length c.amends in
    let lined = (files_lined n s s c c refl (λ j h. refl) accepted accepted).own in
    let own : lined.own ≡ c.members = sym (ap (λ (c : Case). c.members) lined.is) in
    record {
      all = λ j starts. rw own at (lined.all j (rw (line_of_member n j s) at starts));
      each = λ j there. rw (line_of_member n j s, ← own) (lined.each j (rw own there));
      counted = rw (line_of_member n (length c.members) s) (rw own at lined.counted);
    }

pub plan_lines_lem : PlanLines
unfolding printed plan_lines
plan_lines_lem s out room c accepted fits =
    ap (lines_past (length c.members)) (printed_of s room c accepted fits) ∙ members_done (valued_plan c) c.rows c.members _

-- ---- plain values and their written file
pub valued_alike : AllValuedAlike
unfolding valued_of accepting_of
valued_alike room c full none =
    let rules = (refused_exactly c full.all_ages).0 none in
    record { file = rw (written_is_accepted c full rules); member = member_alike c rules }

-- ---- independence
case_of : (s : List ℕ) (room : ℕ) {out : List ℕ} → valued_of room s ≡ values out → (c : Case) × (accepting_of s ≡ values c)
unfolding valued_of
case_of s room e = let f = then_values (accepting_of s) _ e in (f.0, f.1)

pub independence : Independence
independence s s' out out' room room' j j' c accepted fits fits' agree =
    let a' = case_of s' room' fits' in
    let c' = a'.0 in
    let n = length c.amends in
    let before : Agree (lines_before n) s s' = λ n h. sym (line_past n s) ∙ agree.before (suc n) (omega arith) (omega arith) ∙ line_past n s' in
    let f = files_lined n s s' c c' refl before accepted a'.1 in
    let amends : c.amends ≡ c'.amends = cc (f.own.is, f.other.is) in
    let many : length c'.amends ≡ n = sym (ap length amends) in
    let lines = members_are_lines s c accepted in
    let lines' = members_are_lines s' c' a'.1 in
    let there = lines.all j agree.member in
    let there' = lines'.all j' (rw many (rw agree.same at agree.member)) in
    let here' : tail_of false (line_at (first_member n + j') s') ≡ listed (get_or c'.members j' nobody) = rw many at (lines'.each j' there') in
    let member : get_or c.members j nobody ≡ get_or c'.members j' nobody = cc (lines.each j there, here', agree.same) in
    let plan : c.plan ≡ c'.plan = cc (f.own.is, f.other.is) in
    let valued : valued_plan c ≡ valued_plan c' = λ i. as_valued (plan i) (amends i) in
    let rows : c.rows ≡ c'.rows = cc (f.own.is, f.other.is) in
    own_text s room c accepted fits j there
    ∙ (λ i. (member_is_line (valued i) (rows i) (member i)).text)
    ∙ sym (own_text s' room' c' a'.1 fits' j' there')

-- ---- totals
pub totals_are_sums : TotalsAreSums
unfolding total
totals_are_sums p rows figure = record { none = refl; one = total_one p rows figure; both = total_both p rows figure }

pub totals_accuracy : TotalsAccuracy
unfolding figures figures_at
totals_accuracy s c accepted =
    let p = valued_plan c in
    let rows = c.rows in
    let members = c.members in
    let close = member_close s c accepted in
    record {
      value = sums_close p rows (λ f. f.value) _ _ members (λ j h. (close j h).value);
      cost = sums_close p rows (λ f. f.cost) _ _ members (λ j h. (close j h).cost);
      liability = sums_close p rows (λ f. f.liability) _ _ members (λ j h. (close j h).liability);
    }

-- ---- the supplemental cost
pub supplemental_accuracy : SupplementalAccuracy
unfolding supplemental supplemental*
supplemental_accuracy p rows members accepted =
    payment_close p.interest p.years (plan_facts p rows accepted).head.years.0 (unfunded p rows members)
