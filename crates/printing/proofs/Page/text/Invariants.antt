-- What is written is the text so far.
use Rattle.std.proofs.Common.{take}
use Rattle.printing.specs.Puts.{Puts}
use Rattle.printing.proofs.Page.text.Given as goal

abbrev pub invariant-loop-byte : goal.invariant-loop-byte
invariant-loop-byte l = Puts l.initial.self (take l.byte-index l.text) l.self
