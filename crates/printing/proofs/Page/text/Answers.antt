-- `printing::Page::text` meets its contract.
use borrow.Author.Rules.{rules}
use Rattle.printing.proofs.SetsLaws.{byte_on}
use Rattle.printing.proofs.Page.text.Goals as goal

pub loop-byte-preserved : goal.loop-byte-preserved
loop-byte-preserved c = byte_on _ c.loop-byte.byte-index (search rules) c.loop-byte.invariant c.put.ensures
