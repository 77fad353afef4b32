-- The lines of the members, from the two arrays that the code keeps, and those of a report over these.
use Rattle.std.specs.Prelude.{List, [], ◌++◌, ℕ, zero, suc, ◌≤◌, ◌<◌, length}
use Rattle.costs.specs.declared.Figures.{Figures}
use Rattle.members.specs.Array.{member_at}
use Rattle.all_figures.specs.Worked.{figures_in, Small}
use Rattle.rounding.specs.Signed.{integer_of}
use Rattle.report.specs.declared.Report.{Report}
use Rattle.report.specs.Lines.{figures_line, plan_lines}

-- the lines of the first n members
unfoldable pub lines_in : (members worked : List (List ℕ)) → ℕ → List ℕ
lines_in members worked zero = []
lines_in members worked (suc n) = lines_in members worked n ++ figures_line (member_at members n).id (figures_in worked n)

-- an id of nine digits at most (rule 4.2) and small figures, as accepted members have them: such a line has 64 bytes at most
abbrev pub ShortLine : (id : ℕ) → Figures → Type 0
ShortLine id f = (id ≤ 999999999) × Small f

-- the lines of the first n members are such
abbrev pub ShortLines : (members worked : List (List ℕ)) → ℕ → Type 0
ShortLines members worked n = (j : ℕ) → j < n → ShortLine (member_at members j).id (figures_in worked j)

-- rule 13.2: all lines of a report
abbrev pub report_lines : Report → List ℕ
report_lines r =
    lines_in r.members.now r.worked.now (length r.members.now)
    ++ plan_lines (length r.members.now) r.totals (integer_of r.unfunded) (integer_of r.supplemental)
