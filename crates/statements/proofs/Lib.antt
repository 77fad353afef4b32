-- Laws that no function owns; Statements is what a reader looks for.
pub mod SupplementalLaws
pub mod TotalSums
pub mod FileLines
pub mod LineEnds
pub mod LoneMember
pub mod AmountSizes
pub mod NoAdditions
pub mod HandedOn
pub mod Statements
pub mod Engines
