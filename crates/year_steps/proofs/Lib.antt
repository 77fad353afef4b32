-- The laws of the fill, for the proofs of the crates above.
pub mod Filling
