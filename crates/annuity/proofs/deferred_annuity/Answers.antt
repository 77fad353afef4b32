-- `annuity::deferred_annuity` meets its contract.
use native.Mathlib.Omega.{arith}
use Rattle.factors.specs.Basis.{basis, payable}
use Rattle.factors.proofs.Bases.{basis_fair, payable_fair}
use Rattle.factors.proofs.PensionLaws.{pension_most}
use Rattle.year_steps.proofs.Filling.{deferred_filled}
use Rattle.annuity.proofs.deferred_annuity.Goals as goal

pub fill-requires : goal.fill-requires
fill-requires c = let a = c.args in
    (c.requires.0, c.requires.1, c.requires.2, c.requires.3, omega (arith, c.pension-start.ensures, pension_most (payable a.pay (basis a.rows a.r a.i)) (payable_fair a.pay (basis_fair a.rows a.r a.i)) c.requires.3))

pub returns : goal.returns
returns c = deferred_filled _ _ (rw c.pension-start.ensures at c.fill.ensures)
