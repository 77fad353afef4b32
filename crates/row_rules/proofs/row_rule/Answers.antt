-- `row_rules::row_rule` meets its contract.
use Rattle.std.proofs.Common.{rules}
use Rattle.row_rules.specs.Table.{row_rules}
use Rattle.rules.proofs.RefusalLaws.{goes_on, refuses, is_last}
use Rattle.row_rules.proofs.row_rule.Goals as goal

pub returns : goal.returns
unfolding row_rules
returns c = search (rules, goes_on, is_last)

pub returns-in_err-rates_rule : goal.returns-in_err-rates_rule
unfolding row_rules
returns-in_err-rates_rule c = search (rules, goes_on, refuses)

pub returns-in_err-last_age_rule : goal.returns-in_err-last_age_rule
unfolding row_rules
returns-in_err-last_age_rule c = search (rules, goes_on, refuses)
