-- What it is for the lines so far to keep every range rule, and for a whole case (rule 5.2).
use Rattle.std.specs.Prelude.{ℕ, zero, suc, ◌≤◌, ◌<◌, ◌≡◌, List, [], ◌∷◌, ◌++◌, length, get_or}
use Rattle.rates.specs.Table.{ages}
use Rattle.plan.specs.declared.Member.{Member}
use Rattle.plan.specs.Numbers.{plan_from}
use Rattle.amendments.specs.Judging.{amendment_refusal, unit_refusal}
use Rattle.rule_order.specs.Acceptance.{amended_refusal, member_refusal, person_sum}
use Rattle.walk.specs.Terms.{term_refusal}
use Rattle.walk.specs.Lines.{row_refusal, most_members}
use Rattle.walk.specs.Step.{Head, headed, State, heading, amending, table, people, ended, unit_ahead, refusal_after}
use Rattle.walk.specs.Walk.{Case, valued_plan}

-- each item keeps a rule that may look at the items before it
abbrev pub EachAfter : {A : Type 0} → (rule : List A → A → ℕ) → (before : List A) → List A → Type 0
EachAfter rule before [] = Unit {0}
EachAfter rule before (a ∷ l) = (rule before a ≡ 0) × EachAfter rule (before ++ a ∷ []) l

abbrev pub Each : {A : Type 0} → (rule : List A → A → ℕ) → List A → Type 0
Each rule = EachAfter rule []

-- what a state holds
abbrev pub head_in : State → Head
head_in (heading terms) = headed terms
head_in (amending h) = h
head_in (table h) = h
head_in (people h members) = h
head_in (ended h members) = h

abbrev pub members_of : State → List Member
members_of (heading terms) = []
members_of (amending h) = []
members_of (table h) = []
members_of (people h members) = members
members_of (ended h members) = members

-- rule 2.13: what is refused of the unit valued, with `line` as the line that is due. An amendment there puts it off
abbrev pub unit_in : State → (line : List ℕ) → ℕ
unit_in (heading terms) line = 0
unit_in (amending h) line = unit_ahead h line
unit_in (table h) line = unit_refusal (plan_from h.terms) h.amends
unit_in (people h members) line = unit_refusal (plan_from h.terms) h.amends
unit_in (ended h members) line = unit_refusal (plan_from h.terms) h.amends

-- `line` is the line that is due
pub record Kept (state : State) (line : List ℕ) : Type 0 where
  pub terms : Each term_refusal (head_in state).terms
  pub amends : Each amendment_refusal (head_in state).amends
  pub unit : unit_in state line ≡ 0
  pub rows : Each row_refusal (head_in state).rows
  pub members : Each (refusal_after (head_in state)) (members_of state)

-- ---- a case, for those who value it
-- no member: what stands past the last
abbrev pub nobody : Member
nobody = record { id = 0; person = 0; entry = 0; age = 0; salary = 0 }

-- rule 4.2: the id of the member before member j, 0 for the first
abbrev pub id_before : List Member → ℕ → ℕ
id_before l zero = 0
id_before l (suc j) = (get_or l j nobody).id

-- rule 5.2: every range rule is kept, by the plan with its amendments and rows, by each member after the one before it, and by each person: the benefits
-- of all lines of one person, wherever they stand, sum to 1000000.00 at most (rule 7.10). Members and persons are judged by the plan as it is valued
pub record AcceptedCase (c : Case) : Type 0 where
  pub plan : amended_refusal c.plan c.amends c.rows ≡ 0
  pub all_ages : length c.rows ≡ ages
  pub few : length c.members ≤ most_members
  pub member : (j : ℕ) → j < length c.members → member_refusal (valued_plan c) c.rows (id_before c.members j) (get_or c.members j nobody) ≡ 0
  pub persons : (person : ℕ) → person_sum (valued_plan c) c.rows person c.members ≤ 100000000
