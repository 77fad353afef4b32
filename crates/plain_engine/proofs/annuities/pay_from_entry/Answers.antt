-- `plain_engine::annuities::pay_from_entry` meets its contract.
use mathlib.Core.Path.{sym, ap, ◌∙◌}
use Prim.Native.Nat.{ℕ}
use Rattle.factors.specs.Basis.{basis}
use Rattle.factors.proofs.Bases.{Z_payable}
use Rattle.plain_engine.proofs.annuities.pay_from_entry.Goals as goal

pub returns : goal.returns
returns c = let a = c.args in
    let own = c.of_age.ensures ∙ c.pay_annuity-annuity.ensures.upto a.m.entry c.requires.0.in_range.grown c.requires.1 in
    own ∙ ap (λ (f : ℕ → ℕ → ℕ). f a.m.entry a.e) (sym (Z_payable a.p.pay (basis a.rows.now a.p.retire a.p.interest)))
