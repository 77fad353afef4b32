-- The array of the members, which is lent.
use Rattle.std.specs.Prelude.{ℕ, List, [], map, get_or, replicate}
use Rattle.plan.specs.declared.Member.{Member}
use Rattle.plan.specs.Numbers.{member_from, numbers_of}
use Rattle.walk.specs.Lines.{most_members}
use Rattle.stretches.specs.Arrays.{filled}

-- the array of up to 1,000 members: their numbers from place 0 on and zeros after
unfoldable pub array_of : List Member → List (List ℕ)
array_of l = filled most_members (replicate 5 0) (map numbers_of l)

-- member j of an array
abbrev pub member_at : List (List ℕ) → ℕ → Member
member_at a j = member_from (get_or a j [])
