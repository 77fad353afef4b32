-- `rounding::mul_div_nearest` meets its contract.
use Rattle.rounding.proofs.mul_div_nearest.Goals as goal

pub wide_div_nearest-requires : goal.wide_div_nearest-requires
wide_div_nearest-requires c = rw c.product.ensures c.requires

pub returns : goal.returns
returns c = rw c.product.ensures at c.wide_div_nearest.ensures
