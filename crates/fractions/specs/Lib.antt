pub mod Ratio
pub mod Fraction
