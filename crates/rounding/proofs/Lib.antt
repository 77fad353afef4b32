-- The laws of rounding are for callers, and what is stated of its one division is for readers; the others serve this crate's proofs. Where a half goes is in HalfEven, and so for this crate alone.
pub mod NearestLaws
pub mod OnePair
mod HalfEven
mod Room
mod SignedLaws
