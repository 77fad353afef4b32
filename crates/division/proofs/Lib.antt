-- That a number has one quotient and one remainder is for callers; the others serve this crate's proofs.
pub mod Pairs
mod Halves
mod Reciprocals
mod Borrows
