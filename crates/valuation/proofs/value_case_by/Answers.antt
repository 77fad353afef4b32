-- `valuation::value_case_by` meets its contract.
use mathlib.Core.Path.{sym, ◌∙◌, ap}
use mathlib.Core.List.{List}
use Prim.Native.Nat.{ℕ, ◌≤◌}
use native.Mathlib.Omega.{arith}
use lib.ListN.{length, replicate, length-take}
use Rattle.std.proofs.lemmas.List.{length-take-le}
use Rattle.plan.specs.declared.Plan.{Plan}
use Rattle.plan.specs.declared.Member.{Member}
use Rattle.casefile.specs.Stored.{AcceptedLists}
use Rattle.casefile.proofs.Arrays.{accepted_arrays}
use Rattle.all_figures.specs.Worked.{members_in}
use Rattle.report.specs.Lines.{printed}
use Rattle.fitting.specs.Fitting.{fitting, answer, buffer}
use Rattle.rules.proofs.RefusalLaws.{told_at_line}
use Rattle.valuation.proofs.AnswerLaws.{accepted_members, accepted_front, members_front, valued_accepted, valued_refused}
use Rattle.valuation.proofs.value_case_by.Goals as goal
use Rattle.valuation.proofs.value_case_by.Goals.{In_ok-outline}

-- what the arrays hold before accepting
abbrev no_list : List (List ℕ)
no_list = replicate 20 (replicate 4 0)

abbrev zero_rows : List (List ℕ)
zero_rows = replicate 106 (replicate 4 0)

abbrev no_members : List (List ℕ)
no_members = replicate 1000 (replicate 5 0)

-- what they hold after it
lists : (c : In_ok-outline) → let o = c.in_ok-outline.outline in AcceptedLists o.plan o.amendments o.members c.accept_case-answer.new.amendments c.accept_case-answer.new.rows c.accept_case-answer.new.members
lists c =
    let o = c.in_ok-outline.outline in
    let a = c.in_ok-outline.ensures in
    accepted_arrays c.args.case.now o.plan o.amendments o.members c.accept_case-answer.new.amendments no_list c.accept_case-answer.new.rows zero_rows c.accept_case-answer.new.members no_members a.answer a.amendments_after a.rows_after a.members_after

-- the members are some of those in their array
within : (c : In_ok-outline) → c.in_ok-outline.outline.members ≤ length c.accept_case-answer.new.members
within c = omega (arith, (lists c).valued.few, c.accept_case-answer.array_long3)

pub slice_bounds-amendments-end : goal.slice_bounds-amendments-end
slice_bounds-amendments-end c = (lists (goal.at.slice_bounds-amendments-end c).In_ok-outline).room

pub slice_bounds-listed-end : goal.slice_bounds-listed-end
slice_bounds-listed-end c = simp length-take (omega (arith, (lists (goal.at.slice_bounds-listed-end c).In_ok-outline).room))

pub as_valued-valued-requires : goal.as_valued-valued-requires
as_valued-valued-requires c = (lists (goal.at.as_valued-valued-requires c).In_ok-outline).list

pub slice_bounds-accepted-end : goal.slice_bounds-accepted-end
slice_bounds-accepted-end c = sym (length-take-le _ _ (within (goal.at.slice_bounds-accepted-end c).In_ok-outline))

pub slice_bounds-members-end : goal.slice_bounds-members-end
slice_bounds-members-end c = within (goal.at.slice_bounds-members-end c).In_ok-outline

pub value_accepted-requires : goal.value_accepted-requires
value_accepted-requires c = let d = (goal.at.value_accepted-requires c).In_ok-outline in
    rw c.as_valued-valued.ensures (accepted_front _ _ (within d) (accepted_members (lists d).valued))

pub returns-in_err-outline : goal.returns-in_err-outline
returns-in_err-outline c = let g = c.args in
    let told = told_at_line _ c.from_residual.result c.from_residual.ensures.1 in
    let is = valued_refused g.case.now (length g.out.now) c.in_err-outline.ensures.answer in
    record { value = told ∙ ap answer (sym is); out_after = ap (λ o. buffer o g.out.now) (sym is) }

pub returns : goal.returns
returns c = let g = c.args in
    let a = c.in_ok-outline.ensures in
    let o = c.in_ok-outline.outline in
    let v = c.value_accepted.ensures in
    let is = valued_accepted g.case.now (length g.out.now) {p = o.plan} {k = o.amendments} {n = o.members} {amendments = c.accept_case-answer.new.amendments} {rows = c.accept_case-answer.new.rows} {members = c.accept_case-answer.new.members} no_list zero_rows no_members a.answer a.amendments_after a.rows_after a.members_after in
    let by = c.as_valued-valued.ensures in
    let used = members_front c.accept_case-answer.new.members o.members (within (goal.at.returns c).In_ok-outline) in
    let front = ap (λ (l : List Member). fitting (length g.out.now) (printed c.as_valued-valued.result c.accept_case-answer.new.rows l)) used in
    let valued = front ∙ ap (λ (p : Plan). fitting (length g.out.now) (printed p c.accept_case-answer.new.rows (members_in c.accept_case-answer.new.members o.members))) by ∙ is in
    record { value = v.value ∙ ap answer valued; out_after = v.out_after ∙ ap (λ o. buffer o g.out.now) valued }
