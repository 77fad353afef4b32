-- The array of the amendments, which is lent.
use Rattle.std.specs.Prelude.{ℕ, List, map, replicate}
use Rattle.plan.specs.declared.Amendment.{Amendment}
use Rattle.plan.specs.Numbers.{fields_of}
use Rattle.amendments.specs.Judging.{most_amendments}
use Rattle.stretches.specs.Arrays.{filled}

-- of up to 20 amendments: their numbers from place 0 on and zeros after
unfoldable pub list_array : List Amendment → List (List ℕ)
list_array l = filled most_amendments (replicate 4 0) (map fields_of l)
