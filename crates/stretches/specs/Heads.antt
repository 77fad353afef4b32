-- What the lines before a part hold: the terms with their amendments; and with some rows.
use Rattle.std.specs.Prelude.{ℕ, List, []}
use Rattle.plan.specs.declared.Amendment.{Amendment}
use Rattle.walk.specs.Step.{Head}

abbrev pub amended : (terms : List ℕ) → List Amendment → Head
amended terms amends = record { terms = terms; amends = amends; rows = [] }

abbrev pub tabled : (terms : List ℕ) → List Amendment → (rows : List (List ℕ)) → Head
tabled terms amends rows = record { terms = terms; amends = amends; rows = rows }
