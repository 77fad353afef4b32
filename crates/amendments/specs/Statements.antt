-- What is stated of a list of amendments that the rules accept, rules 2.11 to 2.13. Proved in proofs/Keeping.antt and proofs/Putting.antt.
use Rattle.std.specs.Prelude.{◌≡◌, ◌⊎◌, ◌↔◌, List, [], ◌∷◌, ◌++◌, ◌≤◌, ◌<◌, length}
use Rattle.plan.specs.declared.Plan.{Plan}
use Rattle.plan.specs.declared.Amendment.{Amendment}
use Rattle.rules.specs.Heading.{unit_most}
use Rattle.amendments.specs.Force.{in_force, additions, unit_valued, as_valued}
use Rattle.amendments.specs.Judging.{most_amendments, amendments_refusal}

-- an amendment is one of some
abbrev pub In : Amendment → List Amendment → Type 0
In a [] = ⊥
In a (b ∷ l) = (a ≡ b) ⊎ In a l

-- ---- what an accepted list keeps
-- rule 2.11, of an amendment after those before it: its fields, its number above theirs, fewer than 20 of them, and one of them to rest on
pub record Keeps (before : List Amendment) (a : Amendment) : Type 0 where
  pub number : (1 ≤ a.number) × (a.number ≤ 999)
  pub rests : a.rests ≤ 999
  pub add : a.add ≤ 100000
  pub struck : a.struck ≤ 1
  pub rises : (b : Amendment) → In b before → b.number < a.number
  pub few : length before < most_amendments
  pub earlier : (a.rests ≡ 0) ⊎ ((b : Amendment) × In b before × (b.number ≡ a.rests))

-- and of the list: each amendment of it, and the unit valued (rule 2.13)
pub record ListKeeps (p : Plan) (l : List Amendment) : Type 0 where
  pub each : (before later : List Amendment) (a : Amendment) → l ≡ before ++ a ∷ later → Keeps before a
  pub unit : (l ≡ [] → ⊥) → unit_valued p l ≤ unit_most p.formula

-- a list is accepted exactly when it keeps them
abbrev pub AcceptedListKeeps : Type 0
AcceptedListKeeps = (p : Plan) (l : List Amendment) → (amendments_refusal p l ≡ 0) ↔ ListKeeps p l

-- ---- what is in force
-- rule 2.12 without an order, of every amendment of an accepted list: in force, if and only if it isn't struck and rests on none or on one in force
abbrev pub InForceExactly : Type 0
InForceExactly =
    (p : Plan) (l : List Amendment) → amendments_refusal p l ≡ 0 → (a : Amendment) → In a l
    → In a (in_force l) ↔ ((a.struck ≡ 0) × ((a.rests ≡ 0) ⊎ ((b : Amendment) × In b (in_force l) × (b.number ≡ a.rests))))

-- and nothing else is in force
abbrev pub InForceOfList : Type 0
InForceOfList = (l : List Amendment) (a : Amendment) → In a (in_force l) → In a l

-- an amendment rests on one of a list, directly or not
pub data RestsOn (l : List Amendment) : Amendment → Amendment → Type 0 where
  directly : {a b : Amendment} → In b l → a.rests ≡ b.number → RestsOn l a b
  indirectly : {a b c : Amendment} → RestsOn l a b → RestsOn l b c → RestsOn l a c

-- a struck amendment puts out all that rest on it
abbrev pub StruckPutsOut : Type 0
StruckPutsOut =
    (p : Plan) (l : List Amendment) → amendments_refusal p l ≡ 0 → (a b : Amendment) → RestsOn l a b → b.struck ≡ 1 → In a (in_force l) → ⊥

-- a list that adds nothing leaves the plan as it is
abbrev pub NoAdditions : Type 0
NoAdditions = (p : Plan) (l : List Amendment) → additions (in_force l) ≡ 0 → as_valued p l ≡ p
