-- `fitting::lines_fit` meets its contract.
use borrow.Author.Rules.{rules}
use native.Mathlib.Omega.{arith}
use lib.ListN.{length}
use Rattle.rounding.specs.Signed.{integer_of}
use Rattle.report.specs.Lines.{plan_lines}
use Rattle.report.specs.MemberLines.{lines_in}
use Rattle.report.proofs.LineLengths.{lines_most, plan_lines_most}
use Rattle.fitting.proofs.FittingLaws.{surely, measured}
use Rattle.fitting.proofs.lines_fit.Goals as goal

pub overflow_mul-report : goal.overflow_mul-report
overflow_mul-report c = omega (arith, c.requires.0)

pub overflow_add-report : goal.overflow_add-report
overflow_add-report c = omega (arith, c.requires.0)

pub returns-then-report-room : goal.returns-then-report-room
returns-then-report-room c = let r = c.args.report in
    let n = length r.members.now in
    let plan = plan_lines_most n r.totals r.unfunded r.supplemental c.requires.0 (search rules) (search rules) (search rules) (search rules) (search rules) in
    surely (lines_in r.members.now r.worked.now n) (plan_lines n r.totals (integer_of r.unfunded) (integer_of r.supplemental)) n c.args.room (lines_most r.members.now r.worked.now n c.requires.1) plan (omega arith)

pub returns : goal.returns
returns c = measured _ c.write-needed.ensures
