-- `heading::word_line` meets its contract.
use lib.ListN.{length-take}
use native.Mathlib.Omega.{arith}
use Rattle.heading.proofs.LineLaws.{word_within, word_cut, word_good, word_wrong}
use Rattle.heading.proofs.word_line.Goals.{then-method, else-method}
use Rattle.heading.proofs.word_line.Goals as goal

pub returns-in_default : goal.returns-in_default
returns-in_default c = word_cut _ c.line_end.ensures c.args.method c.in_default.is

pub slice_bounds-word-end : goal.slice_bounds-word-end
slice_bounds-word-end c = simp length-take (omega (arith, word_within c.args.s.now c.line_end.ensures c.in-Some.is))

pub returns-in-Some-code : goal.returns-in-Some-code
returns-in-Some-code c = let code = c.if-method.code in
    elim c.if-method.branch [
      | then-method w ↦ word_good _ c.line_end.ensures c.args.method c.in-Some.is code (rw (w.code-is, w.if-method.true) w.method_code-code.ensures) c.in-Some-code.is
      | else-method w ↦ word_good _ c.line_end.ensures c.args.method c.in-Some.is code (rw (w.code-is, w.if-method.false) w.formula_code-code.ensures) c.in-Some-code.is
    ]

pub returns-in-None : goal.returns-in-None
returns-in-None c = let code = c.if-method.code in
    elim c.if-method.branch [
      | then-method w ↦ word_wrong _ c.line_end.ensures c.args.method c.in-Some.is code (rw (w.code-is, w.if-method.true) w.method_code-code.ensures) c.in-None.is
      | else-method w ↦ word_wrong _ c.line_end.ensures c.args.method c.in-Some.is code (rw (w.code-is, w.if-method.false) w.formula_code-code.ensures) c.in-None.is
    ]
