-- `rates::staying` meets its contract.
use borrow.Author.Tests.{lt-ltb, le-ltb}
use mathlib.Core.Path.{◌≡◌, ◌∙◌}
use Prim.Native.Nat.{◌-◌, ◌*◌}
use native.Mathlib.Omega.{arith}
use Rattle.rounding.specs.Nearest.{nearest}
use Rattle.rates.specs.Rates.{withdrawal, serves, stays}
use Rattle.rates.proofs.Rates.{leaving_and_staying}
use Rattle.rates.proofs.staying.Goals as goal

pub left_by_both-requires : goal.left_by_both-requires
left_by_both-requires c = (omega (arith, c.able.ensures, leaving_and_staying.able_most c.args.row), omega (arith, c.left_by.ensures))

pub returns-then-k-r : goal.returns-then-k-r
unfolding serves stays
returns-then-k-r c = let a = c.args in
    let remaining : c.left_by.result ≡ 1000000 - withdrawal a.row = omega (arith, c.left_by.ensures) in
    simp (lt-ltb a.k a.r (omega arith)) (c.left_by_both.ensures ∙ (λ i. nearest (c.able.ensures i * remaining i) 1000000))

pub returns-else-k-r : goal.returns-else-k-r
unfolding stays
returns-else-k-r c = let a = c.args in
    simp (le-ltb a.k a.r (omega arith)) c.left_by-else-k-r.ensures
