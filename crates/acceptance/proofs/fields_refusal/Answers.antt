-- `acceptance::fields_refusal` meets its contract.
use Rattle.std.proofs.Common.{rules}
use Rattle.rule_order.specs.Acceptance.{field_rules}
use Rattle.rules.proofs.RefusalLaws.{goes_on, refuses, is_last, told_unless}
use Rattle.acceptance.proofs.fields_refusal.Goals as goal

pub returns-in_err-id_rule : goal.returns-in_err-id_rule
unfolding field_rules
returns-in_err-id_rule c = search (rules, goes_on, refuses)

pub returns-in_err-person_rule : goal.returns-in_err-person_rule
unfolding field_rules
returns-in_err-person_rule c = search (rules, goes_on, refuses)

pub returns-in_err-entry_rule : goal.returns-in_err-entry_rule
unfolding field_rules
returns-in_err-entry_rule c = search (rules, goes_on, refuses)

pub returns-in_err-age_rule : goal.returns-in_err-age_rule
unfolding field_rules
returns-in_err-age_rule c = search (rules, goes_on, refuses)

pub returns : goal.returns
unfolding field_rules
returns c = search (rules, goes_on, is_last, told_unless _ _ _ c.unless.ensures)
