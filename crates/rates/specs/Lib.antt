pub mod ByHand
pub mod Rates
pub mod Table
