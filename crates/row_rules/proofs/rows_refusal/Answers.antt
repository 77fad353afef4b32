-- `row_rules::rows_refusal` meets its contract.
use mathlib.Core.Path.{◌≡◌, sym, ap, ◌∙◌}
use native.Mathlib.Omega.{arith}
use Rattle.row_rules.specs.declared.Row.{Row}
use Rattle.rules.proofs.RefusalLaws.{numbered, handed_on}
use Rattle.row_rules.proofs.TableLaws.{judged, rows_refused, rows_passed, weight_passed, rows_done}
use Prim.Native.Nat.{◌-◌}
use Rattle.row_rules.proofs.rows_refusal.Goals as goal

pub returns-in_err-row_rule : goal.returns-in_err-row_rule
returns-in_err-row_rule c = let l = c.loop-k in
    let rows = c.args.rows in
    let refusal = c.in_err-row_rule.field-0.0 in
    let broken = c.in_err-row_rule.ensures ∙ judged rows l.k (omega arith) l.invariant.0 c.from-row.ensures in
    handed_on refusal c.from_residual.result c.from_residual.ensures.1 ∙ rows_refused rows l.k (omega arith) broken (numbered refusal) ∙ sym l.invariant.1

pub loop-k-preserved : goal.loop-k-preserved
loop-k-preserved c = let l = c.loop-k in
    let rows = c.args.rows in
    let kept = c.in_ok-row_rule.ensures ∙ judged rows l.k (omega arith) l.invariant.0 c.from-row.ensures in (
      ap (λ (x : Row). x.weight) c.from-row.ensures ∙ weight_passed rows l.k (omega arith) l.auto.k,
      l.invariant.1 ∙ rows_passed rows l.k (omega arith) (sym kept),
    )

pub returns : goal.returns
returns c = let l = c.loop-k in
    let none : 121 - l.k ≡ 0 = omega arith in
    sym (l.invariant.1 ∙ rows_done c.args.rows l.k none)
