-- `term_lines::write_terms` meets its contract.
use borrow.Author.Rules.{rules}
use Rattle.printing.specs.Puts.{Puts}
use Rattle.written.specs.Written.{term_lines, closed_lines}
use Rattle.term_lines.proofs.TextLaws.{lines_then}
use Rattle.term_lines.proofs.write_terms.Goals as goal

pub returns-clause-puts : goal.returns-clause-puts
unfolding term_lines
returns-clause-puts c = let three = lines_then _ _ (lines_then _ _ c.write_whole_line.ensures.puts c.write_whole_line-2.ensures.puts) c.write_whole_line-3.ensures.puts in
    let formula = rw c.formula_word.ensures.value at c.write_word_line.ensures.puts in
    let six = lines_then _ _ (lines_then _ _ (lines_then _ _ three formula) c.write_whole_line-4.ensures.puts) c.write_whole_line-5.ensures.puts in
    let method = rw c.method_word.ensures.value at c.write_word_line-2.ensures.puts in
    let all : Puts c.new-page.result (closed_lines (term_lines c.args.p)) c.write_whole_line-6.new.page =
    lines_then _ _ (lines_then _ _ (lines_then _ _ six method) c.write_amount_line.ensures.puts) c.write_whole_line-6.ensures.puts in
    record { holds = search rules; ends = search rules }
