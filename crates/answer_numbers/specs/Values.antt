-- The figures of a member, put out as numbers in a row.
use Rattle.std.specs.Prelude.{ℕ, List, [], ◌∷◌}
use Rattle.rules.specs.Outcome.{Outcome, values, refusal}
use Rattle.costs.specs.declared.Figures.{Figures}

-- the refusal's number, 0 for none
abbrev pub refused_by : Outcome Figures → ℕ
refused_by (values f) = 0
refused_by (refusal number line) = number

-- rules 9.11 and 13.2, B(r), V, N and L; rule 12.2, a refusal keeps what was there
abbrev pub figures_after : Outcome Figures → List ℕ → List ℕ
figures_after (values f) old = f.benefit ∷ f.value ∷ f.cost ∷ f.liability ∷ []
figures_after (refusal number line) old = old
