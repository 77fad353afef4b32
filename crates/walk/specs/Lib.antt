-- The walk over a case file, in the order in which it is built.
pub mod Settled
pub mod Terms
pub mod Lines
pub mod Step
pub mod Walk
pub mod Kept
pub mod Answers
