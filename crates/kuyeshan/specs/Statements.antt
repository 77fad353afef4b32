-- What a caller of the exports rests on, beside their contracts: 0 is no refusal's number, so an answer of 0 says that nothing was refused. Proved in proofs/Numbered.antt.
use Rattle.std.specs.Prelude.{ℕ, ◌<◌, ◌≡◌, List, false}
use Rattle.plan.specs.declared.Plan.{Plan}
use Rattle.plan.specs.declared.Amendment.{Amendment}
use Rattle.plan.specs.declared.Member.{Member}
use Rattle.rules.specs.Outcome.{Outcome, refusal}
use Rattle.walk.specs.Walk.{Case, walk_of}
use Rattle.casefile.specs.Answers.{accepting_of}
use Rattle.costs.specs.Valuation.{valuation}
use Rattle.fitting.specs.Fitting.{fitting}
use Rattle.valuation.specs.Answers.{valued_of}
use Rattle.writer.specs.Files.{file_of}

-- a refusal has a number above 0
abbrev pub Numbered : {A : Type 0} → Outcome A → Type 0
Numbered o = (number line : ℕ) → o ≡ refusal number line → 0 < number

abbrev pub ReadingNumbered : Type 0
ReadingNumbered = (case : List ℕ) → Numbered (walk_of false case)

abbrev pub AcceptingNumbered : Type 0
AcceptingNumbered = (case : List ℕ) → Numbered (accepting_of case)

abbrev pub ValuingNumbered : Type 0
ValuingNumbered = (room : ℕ) (case : List ℕ) → Numbered (valued_of room case)

abbrev pub FittingNumbered : Type 0
FittingNumbered = (room : ℕ) (lines : List ℕ) → Numbered (fitting room lines)

abbrev pub WritingNumbered : Type 0
WritingNumbered = (room : ℕ) (c : Case) → Numbered (file_of room c)

-- the same of plain values
abbrev pub MemberNumbered : Type 0
MemberNumbered =
    (p : Plan) (l : List Amendment) (rows : List (List ℕ)) (m : Member) (number line : ℕ) → valuation p l rows m ≡ refusal number line → 0 < number
