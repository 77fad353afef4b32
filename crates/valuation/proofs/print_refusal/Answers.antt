-- `valuation::print_refusal` meets its contract.
use borrow.Author.Rules.{rules}
use Rattle.valuation.proofs.AnswerLaws.{line_or_refusal}
use Rattle.valuation.proofs.print_refusal.Goals as goal

pub returns : goal.returns
returns c = let w = rw c.number.ensures at c.refusal_line.ensures in
    let both = line_or_refusal c.args.out.now c.args.refused c.refusal_line.result (search rules) w.value w.out_after in
    record { value = rw c.or.ensures both.0; out_after = both.1; writes = rw c.or.ensures both.2 }
