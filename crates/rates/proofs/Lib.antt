-- What is stated of leaving and staying, for the proofs of the crates above.
pub mod Rates
