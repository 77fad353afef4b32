-- `heading::formula_code` meets its contract.
use Rattle.fields.specs.Text.{bytes}
use Rattle.walk.specs.Terms.{formula_word}
use Rattle.heading.proofs.LineLaws.{word_is}
use Rattle.heading.proofs.formula_code.Goals as goal

pub returns-then-eq : goal.returns-then-eq
unfolding formula_word
returns-then-eq c = simp (word_is (bytes "formula=flat") c.args.line.now c.as_slice.ensures c.eq.ensures c.if-eq.true)

pub returns-then-eq-2 : goal.returns-then-eq-2
unfolding formula_word
returns-then-eq-2 c = simp (word_is (bytes "formula=flat") c.args.line.now c.as_slice.ensures c.eq.ensures c.if-eq.false, word_is (bytes "formula=career") c.args.line.now c.as_slice-else-eq.ensures c.eq-else-eq.ensures c.if-eq-2.true)

pub returns-then-eq-3 : goal.returns-then-eq-3
unfolding formula_word
returns-then-eq-3 c = simp (word_is (bytes "formula=flat") c.args.line.now c.as_slice.ensures c.eq.ensures c.if-eq.false, word_is (bytes "formula=career") c.args.line.now c.as_slice-else-eq.ensures c.eq-else-eq.ensures c.if-eq-2.false, word_is (bytes "formula=final") c.args.line.now c.as_slice-else-eq-2.ensures c.eq-else-eq-2.ensures c.if-eq-3.true)

pub returns-else-eq-3 : goal.returns-else-eq-3
unfolding formula_word
returns-else-eq-3 c = simp (word_is (bytes "formula=flat") c.args.line.now c.as_slice.ensures c.eq.ensures c.if-eq.false, word_is (bytes "formula=career") c.args.line.now c.as_slice-else-eq.ensures c.eq-else-eq.ensures c.if-eq-2.false, word_is (bytes "formula=final") c.args.line.now c.as_slice-else-eq-2.ensures c.eq-else-eq-2.ensures c.if-eq-3.false)
