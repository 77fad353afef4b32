-- Both engines give the parts, and so the same answers: the statement of specs/Engines.antt.
use mathlib.Core.Path.{◌≡◌, refl, sym, ap, ◌∙◌}
use mathlib.Core.List.{List, [], ◌∷◌}
use Prim.Native.Nat.{ℕ, suc, ◌<◌}
use native.Mathlib.Omega.{arith}
use lib.ListN.{length, get_or}
use Rattle.plan.specs.declared.Plan.{Plan}
use Rattle.plan.specs.declared.Member.{Member}
use Rattle.plan.specs.declared.Method.{Method}
use Rattle.plan.specs.Ranges.{MemberRanges}
use Rattle.rule_order.proofs.Facts.{member_facts}
use Rattle.costs.specs.declared.Figures.{Figures}
use Rattle.costs.specs.Valuation.{method_of, figures}
use Rattle.parts.specs.declared.Parts.{Parts}
use Rattle.parts.specs.Parts.{figures_from}
use Rattle.parts.proofs.PartLaws.{own_figures}
use Rattle.rules.specs.Outcome.{Outcome, values, refusal, and_then}
use Rattle.rule_order.proofs.ValuedLaws.{valued_is_accepted}
use Rattle.walk.specs.Walk.{valued_plan}
use Rattle.walk.specs.Kept.{nobody, id_before}
use Rattle.walk.proofs.Accepted.{accepted_keeps}
use Rattle.casefile.specs.Answers.{accepting_of}
use Rattle.totals.specs.Totals.{total, unfunded, supplemental}
use Rattle.report.specs.Lines.{member_line, member_lines, printed}
use Rattle.fitting.specs.Fitting.{fitting, answer, buffer}
use Rattle.valuation.specs.Answers.{valued_of}
use Rattle.statements.specs.Engines.{Engine, GivesParts, by_definition, figures_from_kept, figures_by, total_of, lines_of, printed_of, valued_by, EnginesAgree}

-- what follows is asked of what was accepted alone
then_same : {A B : Type 0} (o : Outcome A) (f g : A → Outcome B) → ((a : A) → o ≡ values a → f a ≡ g a) → and_then o f ≡ and_then o g
then_same (values a) f g same = same a refl
then_same (refusal number line) f g same = refl

module _ (e : Engine) (g : GivesParts e) where
  -- the figures of an accepted member are those that are printed, and what is kept after it is right
  module _ (p : Plan) (rows : List (List ℕ)) where
    abbrev method : Method
    method = method_of p.method

    abbrev Right : e.Kept → Type 0
    Right kept = g.Right p rows method kept

    own : (m : Member) → MemberRanges p rows m → (kept : e.Kept) → Right kept → (figures_from (e.parts p rows kept m method m.age) method ≡ figures p rows m) × Right (e.after p rows kept m method m.age)
    own m ranges kept right =
        let given = g.gives p rows m ranges method m.age (omega arith) (omega arith) kept right in
        ((own_figures p rows m ranges refl given.0).1, given.1)

    -- ---- and so are the totals and the lines of accepted members
    abbrev Accepted : List Member → Type 0
    Accepted l = (j : ℕ) → j < length l → MemberRanges p rows (get_or l j nobody)

    totals_same : (figure : Figures → ℕ) (l : List Member) → Accepted l → (kept : e.Kept) → Right kept → total_of figure (figures_from_kept e p rows kept l) ≡ total p rows figure l
    unfolding figures_from_kept total_of total
    totals_same figure [] all kept right = refl
    totals_same figure (m ∷ l) all kept right =
        let o = own m (all 0 (omega arith)) kept right in
        rw (o.0, totals_same figure l (λ j h. all (suc j) (omega arith)) _ o.1)

    lines_same : (l : List Member) → Accepted l → (kept : e.Kept) → Right kept → lines_of l (figures_from_kept e p rows kept l) ≡ member_lines p rows l
    unfolding figures_from_kept lines_of member_lines member_line
    lines_same [] all kept right = refl
    lines_same (m ∷ l) all kept right =
        let o = own m (all 0 (omega arith)) kept right in
        rw (o.0, lines_same l (λ j h. all (suc j) (omega arith)) _ o.1)

    printed_same : (l : List Member) → Accepted l → Right (e.begins p rows) → printed_of p l (figures_by e p rows l) ≡ printed p rows l
    unfolding printed_of printed unfunded supplemental
    printed_same l all right =
        let k = e.begins p rows in
        rw (lines_same l all k right, totals_same (λ f. f.value) l all k right, totals_same (λ f. f.cost) l all k right, totals_same (λ f. f.liability) l all k right)

  -- ---- so the answer is that of the entries
  valued_same : (room : ℕ) (case : List ℕ) → valued_by e room case ≡ valued_of room case
  unfolding valued_by valued_of accepting_of
  valued_same room case =
      then_same (accepting_of case) _ _
      (λ c accepted.
      let rules = (accepted_keeps case c accepted).1 in
      let plan = valued_is_accepted c.plan c.amends c.rows rules.plan in
      ap (fitting room) (printed_same (valued_plan c) c.rows c.members (λ j h. member_facts (valued_plan c) c.rows (id_before c.members j) _ plan (rules.member j h)) (g.begins (valued_plan c) c.rows plan (method_of c.plan.method))))

pub by_definition_gives : GivesParts by_definition
by_definition_gives =
    record {
      Right = λ p rows method kept. Unit {0};
      begins = λ p rows accepted method. tt;
      gives = λ p rows m ranges method k from to kept right. (refl, tt);
    }

pub engines_agree : EnginesAgree
engines_agree e e' g g' =
    let same : (room : ℕ) (case : List ℕ) → valued_by e room case ≡ valued_by e' room case = λ room case. valued_same e g room case ∙ sym (valued_same e' g' room case) in
    record {
      figures = λ p rows m ranges method k from to kept kept' right right'.
          ap (λ (q : Parts). figures_from q method) ((g.gives p rows m ranges method k from to kept right).0 ∙ sym (g'.gives p rows m ranges method k from to kept' right').0);
      same = same;
      answers = λ old case. ap answer (same (length old) case);
      buffers = λ old case. ap (λ (o : Outcome (List ℕ)). buffer o old) (same (length old) case);
      promised = valued_same e g;
    }
