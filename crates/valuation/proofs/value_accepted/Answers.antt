-- `valuation::value_accepted` meets its contract.
use lib.ListN.{length}
use Rattle.rule_order.proofs.Facts.{plan_facts}
use Rattle.report.proofs.PrintedLaws.{printed_is}
use Rattle.valuation.proofs.AnswerLaws.{short_lines}
use Rattle.valuation.proofs.value_accepted.Goals as goal

pub supplemental_of-supplemental-requires : goal.supplemental_of-supplemental-requires
supplemental_of-supplemental-requires c = let head = (plan_facts c.args.p c.args.rows c.requires.plan).head in
    (head.interest, head.years.0, head.years.1)

pub fit_lines-requires : goal.fit_lines-requires
fit_lines-requires c = let a = c.args in
    let n = length a.members.now in
    (c.requires.few, short_lines a.p a.rows a.members.now c.work-totals.new.worked n c.requires c.work-totals.ensures.are_worked)

pub returns : goal.returns
returns c = let a = c.args in
    let n = length a.members.now in
    let w = c.work-totals in
    let is = printed_is a.p a.rows a.members.now w.new.worked n w.ensures.are_worked w.ensures.value c.unfunded_of-unfunded.ensures c.supplemental_of-supplemental.ensures in
    record { value = rw is at c.fit_lines.ensures.value; out_after = rw is at c.fit_lines.ensures.out_after }
