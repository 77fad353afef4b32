-- What is printed, RULES section 13: the members' lines and the plan's three; or the line of a refusal.
use Rattle.std.specs.Prelude.{List, [], ◌∷◌, ◌++◌, ℕ, length, ℤ}
use Rattle.plan.specs.declared.Plan.{Plan}
use Rattle.plan.specs.declared.Member.{Member}
use Rattle.costs.specs.declared.Figures.{Figures}
use Rattle.costs.specs.Valuation.{figures}
use Rattle.fields.specs.Text.{bytes}
use Rattle.printed_lines.specs.Lines.{amounts_line, signed_line, pair_line}
use Rattle.totals.specs.declared.Totals.{Totals}
use Rattle.totals.specs.Totals.{totals, unfunded, supplemental}

-- rule 13.2, a member's line: the id, and B(r), V, N, L
unfoldable pub figures_line : (id : ℕ) → Figures → List ℕ
figures_line id f = amounts_line (bytes "member=") id (f.benefit ∷ f.value ∷ f.cost ∷ f.liability ∷ [])

-- rule 13.2, the line of the totals: the count, and V, N, L
unfoldable pub total_line : (count : ℕ) → Totals → List ℕ
total_line count t = amounts_line (bytes "total=") count (t.value ∷ t.cost ∷ t.liability ∷ [])

-- rule 13.2: the three lines of the plan
unfoldable pub plan_lines : (count : ℕ) → Totals → (unfunded supplemental : ℤ) → List ℕ
plan_lines count t unfunded supplemental =
    total_line count t ++ signed_line (bytes "unfunded=") unfunded ++ signed_line (bytes "supplemental=") supplemental

module _ (p : Plan) (rows : List (List ℕ)) where
  -- rule 11.5: a member's line rests on the plan, the rows and the member alone
  unfoldable pub member_line : Member → List ℕ
  member_line m = figures_line m.id (figures p rows m)

  -- the member lines, in order
  unfoldable pub member_lines : List Member → List ℕ
  member_lines [] = []
  member_lines (m ∷ more) = member_line m ++ member_lines more

  -- rule 13.2: all that is printed of an accepted case
  unfoldable pub printed : List Member → List ℕ
  printed members =
      member_lines members ++ plan_lines (length members) (totals p rows members) (unfunded p rows members) (supplemental p rows members)

-- rule 13.3: the line of a refusal
unfoldable pub refusal_line : (number line : ℕ) → List ℕ
refusal_line number line = pair_line (bytes "refused=") number line
