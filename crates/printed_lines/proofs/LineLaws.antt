-- The fields of a line of amounts, one after the other.
use mathlib.Core.Path.{◌≡◌}
use mathlib.Core.List.{List, [], ◌∷◌, ◌++◌, append_assoc, append-nil}
use Prim.Native.Nat.{ℕ, ◌+◌, ◌<◌}
use native.Mathlib.Numerals.{add-one}
use lib.ListN.{length, get_or, take}
use lib.Seq.{take-suc}
use Rattle.printing.specs.declared.Page.{Page}
use Rattle.printing.specs.Puts.{Puts}
use Rattle.printing.specs.Amounts.{amount}
use Rattle.printing.proofs.SetsLaws.{nothing, ◌then◌}
use Rattle.printed_lines.specs.Lines.{fields}

fields_more : (amounts : List ℕ) (cents : ℕ) → fields (amounts ++ cents ∷ []) ≡ fields amounts ++ 44 ∷ amount cents
unfolding fields
fields_more [] cents = simp append-nil
fields_more (c ∷ more) cents = simp (fields_more more cents, append_assoc)

pub fields_none : (old : Page) → Puts old (fields []) old
unfolding fields
fields_none old = nothing old

-- the first fields, and one more
pub field_on : (amounts : List ℕ) (i : ℕ) {old now new : Page} → i < length amounts → Puts old (fields (take i amounts)) now → Puts now (44 ∷ amount (get_or amounts i 0)) new → Puts old (fields (take (i + 1) amounts)) new
field_on amounts i h p q =
    rw (add-one i, take-suc amounts i 0 h, fields_more (take i amounts) (get_or amounts i 0)) (p then q)
