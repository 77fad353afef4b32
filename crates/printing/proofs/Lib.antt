-- Laws that no function owns.
pub mod SetsLaws
pub mod AmountLaws
