-- The figures in their array, member by member.
use mathlib.Core.Path.{subst⁻¹, ap, ◌∙◌}
use mathlib.Core.List.{List, []}
use Prim.Native.Nat.{ℕ}
use lib.ListN.{take}
use Rattle.std.proofs.lemmas.List.{get_or-take}
use native.Mathlib.Omega.{arith}
use Rattle.plan.specs.declared.Plan.{Plan}
use Rattle.parts.proofs.FigureSizes.{figures_small}
use Rattle.members.specs.Array.{member_at}
use Rattle.all_figures.specs.Worked.{figures_stored, AcceptedMembers, AreWorked, Small, SmallIn}

-- the figures of accepted members are small
pub worked_small : (p : Plan) (rows members worked : List (List ℕ)) (n : ℕ) → AcceptedMembers p rows members n → AreWorked p rows members worked n → SmallIn worked n
worked_small p rows members worked n a all j h =
    let s = figures_small p rows (member_at members j) (a.member j h) in
    subst⁻¹ Small (all j h) (s.benefit, omega (arith, s.value), s.cost, omega (arith, s.liability))

-- the used part of the array has the figures too
pub worked_front : (p : Plan) (rows members worked : List (List ℕ)) (n : ℕ) → AreWorked p rows members worked n → AreWorked p rows members (take n worked) n
worked_front p rows members worked n all j h = ap figures_stored (get_or-take n worked j [] h) ∙ all j h
