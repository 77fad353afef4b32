-- Amendments that add nothing: what is printed of a file, and what a lone member is answered.
use mathlib.Core.Path.{◌≡◌, refl, sym, ap, ◌∙◌}
use mathlib.Core.Bool.{true}
use mathlib.Core.List.{List, []}
use Rattle.plan.specs.declared.Plan.{Plan}
use Rattle.plan.specs.declared.Amendment.{Amendment}
use Rattle.amendments.specs.Force.{in_force_after, in_force, additions, as_valued}
use Rattle.amendments.specs.Judging.{unit_refusal, each_refusal, amendments_refusal}
use Rattle.amendments.proofs.Putting.{no_additions}
use Rattle.rule_order.specs.Acceptance.{amended_refusal, lone_refusal}
use Rattle.costs.specs.Valuation.{valuation}
use Rattle.walk.specs.Step.{headed, table}
use Rattle.walk.specs.Walk.{valued_plan}
use Rattle.walk.proofs.NoAdditions.{row_due, no_additions_move}
use Rattle.report.specs.Lines.{printed}
use Rattle.fitting.specs.Fitting.{fitting}
use Rattle.statements.specs.Statements.{NoAdditionsPrint, NoAdditionsAlone}
use Rattle.statements.proofs.FileLines.{late_case}

none_added : additions (in_force []) ≡ 0
unfolding additions in_force_after
none_added = refl

same_plan : (p : Plan) (l : List Amendment) → additions (in_force l) ≡ 0 → as_valued p l ≡ as_valued p []
same_plan p l nothing = no_additions p l nothing ∙ sym (no_additions p [] none_added)

pub no_additions_print : NoAdditionsPrint
no_additions_print room k terms l s c nothing off e =
    let bare : c.amends ≡ [] = late_case [] k (table (headed terms)) s c refl (sym (row_due true k (headed terms) s off) ∙ e) in
    let plan : as_valued c.plan l ≡ valued_plan c = same_plan c.plan l nothing ∙ ap (as_valued c.plan) (sym bare) in
    rw (no_additions_move true k terms l s nothing off, e) (ap (λ (p : Plan). fitting room (printed p c.rows c.members)) plan)

none_refused : (p : Plan) → amendments_refusal p [] ≡ 0
unfolding amendments_refusal each_refusal unit_refusal
none_refused p = refl

pub no_additions_alone : NoAdditionsAlone
unfolding valuation lone_refusal amended_refusal
no_additions_alone p l rows m accepted nothing =
    rw (accepted, none_refused p, same_plan p l nothing)
