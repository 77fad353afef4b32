-- `bench_rounding::bench_rounding_signed_mul_div_nearest` meets its contract.
use mathlib.Core.Path.{ap}
use Rattle.rounding.specs.declared.Signed.{Signed}
use Rattle.bench_rounding.proofs.bench_rounding_signed_mul_div_nearest.Goals as goal

pub returns : goal.returns
returns c = let e = c.signed_mul_div_nearest-r.ensures in
    record { value = ap (λ (s : Signed). s.size) e; below_after = ap (λ (s : Signed). s.negative) e }
