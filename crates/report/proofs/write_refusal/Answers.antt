-- `report::write_refusal` meets its contract.
use borrow.Author.Rules.{rules}
use Rattle.report.specs.Lines.{refusal_line}
use Rattle.report.proofs.write_refusal.Goals as goal

pub returns : goal.returns
unfolding refusal_line
returns c = search rules
