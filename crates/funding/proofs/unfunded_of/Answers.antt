-- `funding::unfunded_of` meets its contract.
use Rattle.funding.proofs.FundingLaws.{overfunded, underfunded}
use Rattle.funding.proofs.unfunded_of.Goals as goal

pub returns-then-liability-assets : goal.returns-then-liability-assets
returns-then-liability-assets c = overfunded _ _ c.if-liability-assets.true

pub returns-else-liability-assets : goal.returns-else-liability-assets
returns-else-liability-assets c = underfunded _ _ c.if-liability-assets.false
