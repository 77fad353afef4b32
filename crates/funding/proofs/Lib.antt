pub mod FundingLaws
