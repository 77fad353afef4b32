-- `report::Report::write_plan` meets its contract.
use Rattle.printing.proofs.SetsLaws.{◌then◌}
use Rattle.report.specs.Lines.{total_line, plan_lines}
use Rattle.report.proofs.Report.write_plan.Goals as goal

pub returns : goal.returns
unfolding plan_lines total_line
returns c =
    c.write_amounts_line.ensures.puts then c.write_signed_line.ensures.puts then c.write_signed_line-2.ensures.puts
