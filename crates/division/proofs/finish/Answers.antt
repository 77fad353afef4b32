-- `division::finish` meets its contract.
use Rattle.std.proofs.Common.{sym, refl, ◌∙◌, arith}
use Rattle.division.proofs.Reciprocals.{one_word}
use Rattle.division.proofs.finish.Goals as goal

pub loop-t-init : goal.loop-t-init
loop-t-init c = refl

pub step-t-requires : goal.step-t-requires
step-t-requires c = (c.requires.0, rw c.loop-t.invariant c.requires.1)

pub loop-t-smaller : goal.loop-t-smaller
loop-t-smaller c = c.step-t.ensures.less c.loop-t-test.true

pub last-requires : goal.last-requires
last-requires c = (c.requires.0, rw (sym (one_word c.args.d c.loop-t.t (omega arith)) ∙ c.loop-t.invariant) c.requires.1)

pub returns : goal.returns
returns c = rw (sym (one_word c.args.d c.loop-t.t (omega arith)) ∙ c.loop-t.invariant) at c.last.ensures
