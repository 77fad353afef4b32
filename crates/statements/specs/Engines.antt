-- The two engines (rule 9.12): whichever works the figures, every case file has the same answer. Proved in proofs/Engines.antt.
use Rattle.std.specs.Prelude.{◌≡◌, List, [], ◌∷◌, ◌++◌, ℕ, ◌+◌, ◌≤◌, length, pos, ◌-ℤ◌, ◌*ℤ◌}
use Rattle.rounding.specs.Nearest.{nearest_ℤ}
use Rattle.factors.specs.Factors.{S, C}
use Rattle.plan.specs.declared.Plan.{Plan}
use Rattle.plan.specs.declared.Member.{Member}
use Rattle.plan.specs.declared.Method.{Method}
use Rattle.plan.specs.Ranges.{MemberRanges}
use Rattle.rule_order.specs.Acceptance.{plan_refusal}
use Rattle.costs.specs.declared.Figures.{Figures}
use Rattle.costs.specs.Valuation.{method_of, setting_of}
use Rattle.parts.specs.declared.Parts.{Parts}
use Rattle.parts.specs.Parts.{parts_at, figures_from}
use Rattle.rules.specs.Outcome.{Outcome, and_then}
use Rattle.walk.specs.Walk.{valued_plan}
use Rattle.casefile.specs.Answers.{accepting_of}
use Rattle.totals.specs.declared.Totals.{Totals}
use Rattle.report.specs.Lines.{figures_line, plan_lines}
use Rattle.fitting.specs.Fitting.{fitting, answer, buffer}
use Rattle.valuation.specs.Answers.{valued_of}

-- ---- an engine, and what it promises
-- rule 9.12, an engine, known by what it gives. It begins a plan with something that it keeps: the shared engine with G and empty columns
-- (rule 8.11), the plain one with nothing. From what it keeps it gives the parts of a member's figures at an age k, by a method, and keeps
-- something after it, for the next member
pub record Engine : Type 1 where
  pub Kept : Type 0
  pub begins : Plan → (rows : List (List ℕ)) → Kept
  pub parts : Plan → (rows : List (List ℕ)) → Kept → Member → Method → (k : ℕ) → Parts
  pub after : Plan → (rows : List (List ℕ)) → Kept → Member → Method → (k : ℕ) → Kept

-- the promise of either engine. `Right` is its own: what must hold of what it keeps. `begins`: of an accepted plan that holds from the
-- beginning on; for the shared engine `fill_shared` shows it before its loop (shared_fill/src/lib.rt). `gives`: where it holds, an accepted
-- member has its parts, by each of the five methods and at each age of its own (rule 9.9), and it holds of what is kept after it. That is
-- the contract of both `parts_at` (plain_engine/src/annuities.rt, shared_engine/src/lib.rt), as a reader can see: the plain one keeps nothing, and
-- the shared one asks and ensures what `Shared` has, for the method that is asked for
pub record GivesParts (e : Engine) : Type 1 where
  pub Right : Plan → (rows : List (List ℕ)) → Method → e.Kept → Type 0
  pub begins : (p : Plan) (rows : List (List ℕ)) → plan_refusal p rows ≡ 0 → (method : Method) → Right p rows method (e.begins p rows)
  pub gives : (p : Plan) (rows : List (List ℕ)) (m : Member) → MemberRanges p rows m
      → (method : Method) (k : ℕ) → m.entry ≤ k → k ≤ p.retire → (kept : e.Kept) → Right p rows method kept
      → (e.parts p rows kept m method k ≡ parts_at (setting_of p rows m) k method) × Right p rows method (e.after p rows kept m method k)

-- such an engine, for one: it keeps nothing, and gives the parts as they are defined
abbrev pub by_definition : Engine
by_definition =
    record {
      Kept = Unit {0};
      begins = λ p rows. tt;
      parts = λ p rows kept m method k. parts_at (setting_of p rows m) k method;
      after = λ p rows kept m method k. tt;
    }

-- ---- a case, valued by the parts that an engine gives
module _ (e : Engine) (p : Plan) (rows : List (List ℕ)) where
  -- rule 9.11: the figures of each member in turn, at its own age and by the plan's own method, from what is kept of those before it
  unfoldable pub figures_from_kept : e.Kept → List Member → List Figures
  figures_from_kept kept [] = []
  figures_from_kept kept (m ∷ more) =
      figures_from (e.parts p rows kept m (method_of p.method) m.age) (method_of p.method)
      ∷ figures_from_kept (e.after p rows kept m (method_of p.method) m.age) more

  abbrev pub figures_by : List Member → List Figures
  figures_by members = figures_from_kept (e.begins p rows) members

-- rule 11.1: a figure of each member, summed; and the totals of V, N and L
unfoldable pub total_of : (Figures → ℕ) → List Figures → ℕ
total_of figure [] = 0
total_of figure (f ∷ more) = figure f + total_of figure more

abbrev pub totals_of : List Figures → Totals
totals_of worked =
    record {
      value = total_of (λ f. f.value) worked;
      cost = total_of (λ f. f.cost) worked;
      liability = total_of (λ f. f.liability) worked;
    }

-- rule 13.2, the members' lines, in order
unfoldable pub lines_of : List Member → List Figures → List ℕ
lines_of [] worked = []
lines_of (m ∷ more) [] = []
lines_of (m ∷ more) (f ∷ others) = figures_line m.id f ++ lines_of more others

-- rules 11.2, 11.3 and 13.2: all lines, with the unfunded and the supplemental
unfoldable pub printed_of : Plan → List Member → List Figures → List ℕ
printed_of p members worked =
    let unfunded = pos (totals_of worked).liability -ℤ pos p.assets in
    lines_of members worked
    ++ plan_lines (length members) (totals_of worked) unfunded (nearest_ℤ (unfunded *ℤ pos S) (C p.interest p.years))

-- rule 12.4, a case file: its first refusal, 30 after all others; else the lines
unfoldable pub valued_by : Engine → (room : ℕ) → List ℕ → Outcome (List ℕ)
valued_by e room case =
    and_then (accepting_of case) (λ c. fitting room (printed_of (valued_plan c) c.members (figures_by e (valued_plan c) c.rows c.members)))

-- ---- the theorem: figures are a function of the parts, and both engines give the parts
pub record SameAnswers (e e' : Engine) (g : GivesParts e) (g' : GivesParts e') : Type 0 where
  -- of every accepted member the same figures, by each method, whatever either has kept so far
  pub figures : (p : Plan) (rows : List (List ℕ)) (m : Member) → MemberRanges p rows m
      → (method : Method) (k : ℕ) → m.entry ≤ k → k ≤ p.retire
      → (kept : e.Kept) (kept' : e'.Kept) → g.Right p rows method kept → g'.Right p rows method kept'
      → figures_from (e.parts p rows kept m method k) method ≡ figures_from (e'.parts p rows kept' m method k) method
  -- for every input and every buffer the same lines, or the same refusal
  pub same : (room : ℕ) (case : List ℕ) → valued_by e room case ≡ valued_by e' room case
  -- so the same answer, and the same bytes in the buffer
  pub answers : (old case : List ℕ) → answer (valued_by e (length old) case) ≡ answer (valued_by e' (length old) case)
  pub buffers : (old case : List ℕ) → buffer (valued_by e (length old) case) old ≡ buffer (valued_by e' (length old) case) old
  -- and they are what value_case, value_case_by and the exports promise: from this `same` follows, and from that `answers` and `buffers`
  pub promised : (room : ℕ) (case : List ℕ) → valued_by e room case ≡ valued_of room case

abbrev pub EnginesAgree : Type 1
EnginesAgree = (e e' : Engine) (g : GivesParts e) (g' : GivesParts e') → SameAnswers e e' g g'
