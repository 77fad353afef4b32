-- `heading::method_code` meets its contract.
use Rattle.fields.specs.Text.{bytes}
use Rattle.walk.specs.Terms.{method_word}
use Rattle.heading.proofs.LineLaws.{word_is}
use Rattle.heading.proofs.method_code.Goals as goal

pub returns-then-eq : goal.returns-then-eq
unfolding method_word
returns-then-eq c = simp (word_is (bytes "method=AB") c.args.line.now c.as_slice.ensures c.eq.ensures c.if-eq.true)

pub returns-then-eq-2 : goal.returns-then-eq-2
unfolding method_word
returns-then-eq-2 c = simp (word_is (bytes "method=AB") c.args.line.now c.as_slice.ensures c.eq.ensures c.if-eq.false, word_is (bytes "method=BD") c.args.line.now c.as_slice-else-eq.ensures c.eq-else-eq.ensures c.if-eq-2.true)

pub returns-then-eq-3 : goal.returns-then-eq-3
unfolding method_word
returns-then-eq-3 c = simp (word_is (bytes "method=AB") c.args.line.now c.as_slice.ensures c.eq.ensures c.if-eq.false, word_is (bytes "method=BD") c.args.line.now c.as_slice-else-eq.ensures c.eq-else-eq.ensures c.if-eq-2.false, word_is (bytes "method=BP") c.args.line.now c.as_slice-else-eq-2.ensures c.eq-else-eq-2.ensures c.if-eq-3.true)

pub returns-then-eq-4 : goal.returns-then-eq-4
unfolding method_word
returns-then-eq-4 c = simp (word_is (bytes "method=AB") c.args.line.now c.as_slice.ensures c.eq.ensures c.if-eq.false, word_is (bytes "method=BD") c.args.line.now c.as_slice-else-eq.ensures c.eq-else-eq.ensures c.if-eq-2.false, word_is (bytes "method=BP") c.args.line.now c.as_slice-else-eq-2.ensures c.eq-else-eq-2.ensures c.if-eq-3.false, word_is (bytes "method=CD") c.args.line.now c.as_slice-else-eq-3.ensures c.eq-else-eq-3.ensures c.if-eq-4.true)

pub returns-then-eq-5 : goal.returns-then-eq-5
unfolding method_word
returns-then-eq-5 c = simp (word_is (bytes "method=AB") c.args.line.now c.as_slice.ensures c.eq.ensures c.if-eq.false, word_is (bytes "method=BD") c.args.line.now c.as_slice-else-eq.ensures c.eq-else-eq.ensures c.if-eq-2.false, word_is (bytes "method=BP") c.args.line.now c.as_slice-else-eq-2.ensures c.eq-else-eq-2.ensures c.if-eq-3.false, word_is (bytes "method=CD") c.args.line.now c.as_slice-else-eq-3.ensures c.eq-else-eq-3.ensures c.if-eq-4.false, word_is (bytes "method=CP") c.args.line.now c.as_slice-else-eq-4.ensures c.eq-else-eq-4.ensures c.if-eq-5.true)

pub returns-else-eq-5 : goal.returns-else-eq-5
unfolding method_word
returns-else-eq-5 c = simp (word_is (bytes "method=AB") c.args.line.now c.as_slice.ensures c.eq.ensures c.if-eq.false, word_is (bytes "method=BD") c.args.line.now c.as_slice-else-eq.ensures c.eq-else-eq.ensures c.if-eq-2.false, word_is (bytes "method=BP") c.args.line.now c.as_slice-else-eq-2.ensures c.eq-else-eq-2.ensures c.if-eq-3.false, word_is (bytes "method=CD") c.args.line.now c.as_slice-else-eq-3.ensures c.eq-else-eq-3.ensures c.if-eq-4.false, word_is (bytes "method=CP") c.args.line.now c.as_slice-else-eq-4.ensures c.eq-else-eq-4.ensures c.if-eq-5.false)
