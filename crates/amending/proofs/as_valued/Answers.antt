-- `amending::as_valued` meets its contract.
use mathlib.Core.Logic.{⊎_elim}
use Prim.Native.Nat.{◌+◌}
use native.Mathlib.Omega.{arith}
use Rattle.amendments.specs.Force.{amendments_from}
use Rattle.amendments.proofs.Keeping.{list_kept, valued_small}
use Rattle.amending.proofs.as_valued.Goals as goal

pub additions-requires : goal.additions-requires
additions-requires c = (list_kept c.args.p (amendments_from c.args.list.now) c.requires).0

pub overflow_add-result : goal.overflow_add-result
overflow_add-result c = ⊎_elim (λ h. omega (arith, h, c.additions.ensures)) (λ h. omega (arith, h, c.additions.ensures))
    (valued_small c.args.p (amendments_from c.args.list.now) c.requires)

pub returns : goal.returns
returns c = let p = c.args.p in
    λ i. record {
      interest = p.interest;
      retire = p.retire;
      pay = p.pay;
      formula = p.formula;
      unit = p.unit + c.additions.ensures i;
      average = p.average;
      method = p.method;
      assets = p.assets;
      years = p.years;
    }
