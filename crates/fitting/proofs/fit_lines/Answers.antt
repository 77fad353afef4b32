-- `fitting::fit_lines` meets its contract.
use Rattle.fitting.proofs.FittingLaws.{too_long_by, written_by}
use Rattle.fitting.proofs.fit_lines.Goals as goal

pub returns-then-not-lines_fit : goal.returns-then-not-lines_fit
returns-then-not-lines_fit c = let both = too_long_by c.args.out.now _ c.lines_fit.ensures c.if-not-lines_fit.true in
    record { value = rw (c.into.ensures.0, c.into.ensures.1) both.0; out_after = both.1 }

pub returns : goal.returns
returns c = let both = written_by c.lines_fit.ensures c.if-not-lines_fit.false c.write.ensures in
    record { value = both.0; out_after = both.1 }
