-- `funding::supplemental_of` meets its contract.
use borrow.Author.Rules.{rules}
use Rattle.funding.proofs.FundingLaws.{payment_fits}
use Rattle.funding.proofs.supplemental_of.Goals as goal

pub signed_mul_div_nearest-requires : goal.signed_mul_div_nearest-requires
signed_mul_div_nearest-requires c = let a = c.args in
    payment_fits a.unfunded.size a.interest a.years c.certain_annuity-certain.ensures c.requires.1 (search rules)
