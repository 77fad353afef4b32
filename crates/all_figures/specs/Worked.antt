-- What the code keeps between its steps: the figures of the members, in an array as accepting keeps the members.
use Rattle.std.specs.Prelude.{◌≡◌, List, [], ◌∷◌, ◌++◌, ℕ, zero, suc, ◌≤◌, ◌<◌, get_or}
use Rattle.plan.specs.declared.Plan.{Plan}
use Rattle.plan.specs.declared.Member.{Member}
use Rattle.rule_order.specs.Acceptance.{plan_refusal}
use Rattle.plan.specs.Ranges.{MemberRanges}
use Rattle.costs.specs.declared.Figures.{Figures}
use Rattle.costs.specs.Valuation.{figures}
use Rattle.walk.specs.Lines.{most_members}
use Rattle.members.specs.Array.{member_at}

-- the first n members of an array
unfoldable pub members_in : List (List ℕ) → ℕ → List Member
members_in a zero = []
members_in a (suc n) = members_in a n ++ (member_at a n ∷ [])

-- an accepted plan, and the n members of an array that the rules accept
pub record AcceptedMembers (p : Plan) (rows members : List (List ℕ)) (n : ℕ) : Type 0 where
  pub plan : plan_refusal p rows ≡ 0
  pub few : n ≤ most_members
  pub id : (j : ℕ) → j < n → (member_at members j).id ≤ 999999999
  pub member : (j : ℕ) → j < n → MemberRanges p rows (member_at members j)

-- four words as figures; and those at place j of an array
abbrev pub figures_stored : List ℕ → Figures
figures_stored f = record { benefit = get_or f 0 0; value = get_or f 1 0; cost = get_or f 2 0; liability = get_or f 3 0 }

abbrev pub figures_in : List (List ℕ) → ℕ → Figures
figures_in a j = figures_stored (get_or a j [])

-- the figures of the first n members stand in the array
abbrev pub AreWorked : Plan → (rows members worked : List (List ℕ)) → ℕ → Type 0
AreWorked p rows members worked n = (j : ℕ) → j < n → figures_in worked j ≡ figures p rows (member_at members j)

-- a benefit of 1000000.00 at most (rule 7.8), and no other figure above 71 times that and half a dollar: 1,000 of them are summed in a word;
-- and the first n are such
abbrev pub Small : Figures → Type 0
Small f = (f.benefit ≤ 100000000) × (f.value ≤ 7100000050) × (f.cost ≤ 7100000050) × (f.liability ≤ 7100000050)

abbrev pub SmallIn : (worked : List (List ℕ)) → ℕ → Type 0
SmallIn worked n = (j : ℕ) → j < n → Small (figures_in worked j)
