-- The laws of the factors, for the proofs of the crates above.
pub mod Carried
pub mod Bases
pub mod Equations
pub mod Distance
pub mod YearStep
pub mod Annuities
pub mod Life
pub mod PensionLaws
pub mod Sizes
pub mod Chains
pub mod Accuracy
