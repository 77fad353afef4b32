-- `amending::last_number` meets its contract.
use mathlib.Core.Path.{sym, ap, ◌∙◌}
use mathlib.Core.List.{[]}
use Prim.Native.Nat.{◌-◌, ◌<◌}
use lib.ListN.{length}
use native.Mathlib.Omega.{arith}
use borrow.Author.Tests.{ltb-true}
use Rattle.std.proofs.lemmas.List.{get_or_default}
use Rattle.plan.specs.declared.Amendment.{Amendment}
use Rattle.plan.specs.Numbers.{amendment_from}
use Rattle.amendments.proofs.ListLaws.{last_number_lem}
use Rattle.amending.proofs.last_number.Goals as goal

pub returns-in-Some : goal.returns-in-Some
returns-in-Some c = let L = c.args.list.now in
    let item = c.in-Some.ensures.item in
    let some : 0 < length L = ltb-true 0 (length L) (sym item.0) in
    let last = item.1 ∙ get_or_default L (length L - 1) c.in-Some.field-0.now [] (omega arith) in
    ap (λ (a : Amendment). a.number) (c.from.ensures ∙ ap amendment_from last) ∙ last_number_lem L (λ none. omega arith)
