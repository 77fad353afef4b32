-- `year_steps::step` meets its contract.
use Prim.Native.Nat.{◌+◌, ◌*◌, ◌≤◌}
use native.Mathlib.Omega.{arith}
use Rattle.factors.proofs.YearStep.{step_shrinks}
use Rattle.rates.proofs.Rates.{leaving_and_staying}
use Rattle.year_steps.proofs.step.Goals as goal

pub mul_div_nearest-requires : goal.mul_div_nearest-requires
mul_div_nearest-requires c = let a = c.args in
    let p : c.staying.result ≤ 100 * (10000 + a.i) = omega (arith, leaving_and_staying.staying_most a.row a.r a.k) in
    omega (arith, step_shrinks a.f c.staying.result (100 * (10000 + a.i)) (omega arith) p)
