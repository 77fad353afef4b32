-- `division::divide` meets its contract.
use Rattle.std.proofs.Common.{◌≡◌, arith}
use Rattle.division.specs.declared.words.Wide.{Wide}
use Rattle.division.specs.Words.{value}
use Rattle.division.proofs.divide.Goals as goal

-- a high word of 0 adds nothing
low_alone : (w : Wide) → w.high ≡ 0 → w.low ≡ value w
unfolding value
low_alone w e = omega arith

pub returns-then-w-eq0 : goal.returns-then-w-eq0
returns-then-w-eq0 c = rw (low_alone c.args.w c.if-w-eq0.true) at c.by_word.ensures
