-- `amending::amendment_rule` meets its contract.
use Rattle.std.proofs.Common.{rules}
use Rattle.rules.proofs.RefusalLaws.{goes_on, refuses, is_last}
use Rattle.amendments.specs.Judging.{amendment_rules}
use Rattle.amending.proofs.amendment_rule.Goals as goal

pub returns-in_err-fields_rule : goal.returns-in_err-fields_rule
unfolding amendment_rules
returns-in_err-fields_rule c = search (rules, refuses)

pub returns-in_err-order_rule : goal.returns-in_err-order_rule
unfolding amendment_rules
returns-in_err-order_rule c = search (rules, goes_on, refuses)

pub returns : goal.returns
unfolding amendment_rules
returns c = search (rules, goes_on, is_last)
