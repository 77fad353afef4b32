-- `report::Report::write` meets its contract.
use borrow.Author.Rules.{rules}
use Rattle.printing.specs.Puts.{Puts}
use Rattle.printing.proofs.SetsLaws.{◌then◌}
use Rattle.report.specs.MemberLines.{report_lines}
use Rattle.report.proofs.Report.write.Goals as goal

pub returns : goal.returns
returns c = let all : Puts c.new-page.result (report_lines c.args.self.now) c.write_plan.new.page = c.write_members.ensures.puts then c.write_plan.ensures in
    record { holds = search rules; ends = search rules }
