-- A person's first line is judged by its own rules, and a lone member is never refused with 29.
use mathlib.Core.Path.{◌≡◌, refl, sym, ◌∙◌}
use mathlib.Core.Bool.{Bool, true, false, cond, ◌&&◌, ◌||◌}
use mathlib.Core.List.{List, [], ◌∷◌, ◌++◌}
use Prim.Native.Nat.{ℕ, zero, suc}
use native.Mathlib.Omega.{arith}
use native.Mathlib.Nat.{zero-add}
use lib.ListN.{length}
use lib.Dec.{leb, ltb, eqb}
use Rattle.plan.specs.declared.Plan.{Plan}
use Rattle.plan.specs.declared.Amendment.{Amendment}
use Rattle.plan.specs.declared.Member.{Member}
use Rattle.plan.specs.Benefit.{B}
use Rattle.rules.specs.Refusals.{high_sum}
use Rattle.rules.specs.Rules.{unless, first_among, between}
use Rattle.rules.specs.Heading.{unit_most, head_rules}
use Rattle.row_rules.specs.Table.{row_rules, row_of, weight_before, rows_refusal}
use Rattle.rules.proofs.RuleLaws.{first_refuses}
use Rattle.amendments.specs.Force.{listed, unit_valued, as_valued}
use Rattle.amendments.specs.Judging.{most_amendments, last_number, amendment_rules, amendment_refusal, unit_refusal, each_refusal, amendments_refusal}
use Rattle.rule_order.specs.Acceptance.{amended_refusal, field_rules, benefit_rules, member_refusal, line_refusal, lone_refusal}
use Rattle.rule_order.specs.Lone.{FirstLineByItsOwn, LoneNever29}
use Rattle.rule_order.proofs.Facts.{own_capped, line_refused, line_summed}
use Rattle.rule_order.proofs.SumLaws.{sum_absent}

-- where nothing is summed yet
pub own_alone : (p : Plan) (rows : List (List ℕ)) (before : ℕ) (m : Member) → line_refusal p rows before 0 m ≡ member_refusal p rows before m
own_alone p rows before m = pick (member_refusal p rows before m) refl
  where
    pick : (n : ℕ) → member_refusal p rows before m ≡ n → line_refusal p rows before 0 m ≡ member_refusal p rows before m
    pick zero e = line_summed p rows before 0 m e ∙ rw (zero-add (B p rows m p.retire), own_capped p rows before m e) (sym e)
    pick (suc n) e = line_refused p rows before 0 m (λ z. omega arith)

pub first_line_own : FirstLineByItsOwn
first_line_own p rows before l m absent = rw (sum_absent p rows m.person l absent) (own_alone p rows before m)

-- ---- none of some rules gives 29
abbrev Others : List ℕ → Type 0
Others [] = Unit {0}
Others (a ∷ later) = (a ≡ high_sum → ⊥) × Others later

others : (rules : List ℕ) → Others rules → first_among rules ≡ high_sum → ⊥
others [] o e = omega arith
others (zero ∷ later) o e = others later o.1 e
others (suc a ∷ later) o e = o.0 (sym (first_refuses (suc a) later (λ z. omega arith)) ∙ e)

other : (kept : Bool) (n : ℕ) → (n ≡ high_sum → ⊥) → unless kept n ≡ high_sum → ⊥
other true n h e = omega arith
other false n h e = h e

head_others : (p : Plan) → Others (head_rules p)
unfolding head_rules
head_others p = (
  other (leb p.interest 2000) 11 (λ e. omega arith),
  (
    other (between 50 75 p.retire) 11 (λ e. omega arith),
    (
      other (eqb p.pay 1 || eqb p.pay 12) 11 (λ e. omega arith),
      (
        other (between 1 3 p.formula) 10 (λ e. omega arith),
        (
          other (leb p.unit (cond (eqb p.formula 1) 100000 500)) 11 (λ e. omega arith),
          (
            other (cond (eqb p.formula 3) (between 1 10 p.average) (eqb p.average 0)) 12 (λ e. omega arith),
            (
              other (between 1 5 p.method) 10 (λ e. omega arith),
              (other (leb p.assets 99999999999999) 11 (λ e. omega arith), (other (between 1 40 p.years) 11 (λ e. omega arith), tt)),
            ),
          ),
        ),
      ),
    ),
  ),
)

rows_other : (rows : List (List ℕ)) (n k : ℕ) → rows_refusal rows k n ≡ high_sum → ⊥
unfolding rows_refusal row_rules
rows_other rows zero k e = omega arith
rows_other rows (suc n) k e =
    let r = row_of rows k in
    let row = row_rules k (weight_before rows k) r in
    let rates = leb r.death 1000000 && (leb r.withdrawal 1000000 && leb r.disability 1000000) in
    let last = cond (eqb k 120) (eqb r.death 1000000) true in
    let scale = between 1000 100000 r.weight && leb (weight_before rows k) r.weight in
    let here : first_among row ≡ high_sum → ⊥ = others row (other rates 11 (λ e. omega arith), (other last 14 (λ e. omega arith), (other scale 15 (λ e. omega arith), tt))) in
    others (first_among row ∷ rows_refusal rows (suc k) n ∷ []) (here, (rows_other rows n (suc k), tt)) e

amendment_other : (before : List Amendment) (a : Amendment) → amendment_refusal before a ≡ high_sum → ⊥
unfolding amendment_rules
amendment_other before a =
    let fields = between 1 999 a.number && (leb a.rests 999 && (leb a.add 100000 && leb a.struck 1)) in
    let order = ltb (last_number before) a.number && ltb (length before) most_amendments in
    let rest = eqb a.rests 0 || listed a.rests before in
    others (amendment_rules before a) (other fields 11 (λ e. omega arith), (other order 53 (λ e. omega arith), (other rest 54 (λ e. omega arith), tt)))

each_other : (before l : List Amendment) → each_refusal before l ≡ high_sum → ⊥
unfolding each_refusal
each_other before [] e = omega arith
each_other before (a ∷ l) e =
    let later = each_refusal (before ++ a ∷ []) l in
    others (amendment_refusal before a ∷ later ∷ []) (amendment_other before a, (each_other (before ++ a ∷ []) l, tt)) e

unit_other : (p : Plan) (l : List Amendment) → unit_refusal p l ≡ high_sum → ⊥
unfolding unit_refusal
unit_other p [] e = omega arith
unit_other p (a ∷ l) e = other (leb (unit_valued p (a ∷ l)) (unit_most p.formula)) 55 (λ e. omega arith) e

list_other : (p : Plan) (l : List Amendment) → amendments_refusal p l ≡ high_sum → ⊥
unfolding amendments_refusal
list_other p l = others (each_refusal [] l ∷ unit_refusal p l ∷ []) (each_other [] l, (unit_other p l, tt))

plan_other : (p : Plan) (l : List Amendment) (rows : List (List ℕ)) → amended_refusal p l rows ≡ high_sum → ⊥
unfolding amended_refusal
plan_other p l rows =
    others (first_among (head_rules p) ∷ amendments_refusal p l ∷ rows_refusal rows 15 106 ∷ [])
    (others (head_rules p) (head_others p), (list_other p l, (rows_other rows 106 15, tt)))

member_other : (p : Plan) (rows : List (List ℕ)) (before : ℕ) (m : Member) → member_refusal p rows before m ≡ high_sum → ⊥
unfolding member_refusal field_rules benefit_rules
member_other p rows before m =
    others (field_rules p before m ++ benefit_rules p rows m) (
      other (between 1 999999999 m.id && ltb before m.id) 21 (λ e. omega arith),
      (
        other (between 1 999999999 m.person) 28 (λ e. omega arith),
        (
          other (leb 15 m.entry && ltb m.entry p.retire) 22 (λ e. omega arith),
          (
            other (between m.entry p.retire m.age) 23 (λ e. omega arith),
            (
              other (leb m.salary 100000000) 24 (λ e. omega arith),
              (other (leb (B p rows m p.retire) 100000000) 25 (λ e. omega arith), tt),
            ),
          ),
        ),
      ),
    )

pub lone_never_29 : LoneNever29
unfolding lone_refusal
lone_never_29 p l rows m =
    let valued = as_valued p l in
    others (amended_refusal p l rows ∷ line_refusal valued rows 0 0 m ∷ [])
    (plan_other p l rows, ((λ e. member_other valued rows 0 m (sym (own_alone valued rows 0 m) ∙ e)), tt))
