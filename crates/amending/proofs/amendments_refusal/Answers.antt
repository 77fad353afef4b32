-- `amending::amendments_refusal` meets its contract.
use Rattle.std.proofs.Common.{rules}
use Rattle.rules.proofs.RefusalLaws.{goes_on, refuses, is_last}
use Rattle.amendments.specs.Judging.{amendments_refusal}
use Rattle.amending.proofs.amendments_refusal.Goals as goal

pub returns-in_err-each_refusal : goal.returns-in_err-each_refusal
unfolding amendments_refusal
returns-in_err-each_refusal c = search (rules, refuses)

pub returns : goal.returns
unfolding amendments_refusal
returns c = search (rules, goes_on, is_last)
