-- `fitting::refusal_line` meets its contract.
use native.Mathlib.Omega.{arith}
use Rattle.fitting.proofs.FittingLaws.{too_long, written}
use Rattle.fitting.proofs.refusal_line.Goals as goal

pub returns-then-out-write_refusal : goal.returns-then-out-write_refusal
returns-then-out-write_refusal c = let both = too_long c.args.out.now _ (omega (arith, c.write_refusal.ensures.ends, c.if-out-write_refusal.true)) in
    record { value = rw (c.into.ensures.0, c.into.ensures.1) both.0; out_after = both.1 }

pub returns : goal.returns
returns c = let both = written (omega (arith, c.write_refusal.ensures.ends, c.if-out-write_refusal.false)) c.write_refusal-2.ensures in
    record { value = both.0; out_after = both.1 }
