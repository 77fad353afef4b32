-- `acceptance::plan_refusal` meets its contract.
use Rattle.std.proofs.Common.{rules}
use Rattle.rule_order.specs.Acceptance.{amended_refusal}
use Rattle.rules.proofs.RefusalLaws.{goes_on, refuses, is_last}
use Rattle.acceptance.proofs.plan_refusal.Goals as goal

pub returns-in_err-head_refusal : goal.returns-in_err-head_refusal
unfolding amended_refusal
returns-in_err-head_refusal c = search (rules, refuses)

pub returns-in_err-amendments_refusal : goal.returns-in_err-amendments_refusal
unfolding amended_refusal
returns-in_err-amendments_refusal c = search (rules, goes_on, refuses)

pub returns : goal.returns
unfolding amended_refusal
returns c = search (rules, goes_on, is_last)
