-- `bench_rounding::bench_rounding_rounded_twice` meets its contract.
use Rattle.bench_rounding.proofs.bench_rounding_rounded_twice.Goals as goal

pub returns : goal.returns
returns c = cc
