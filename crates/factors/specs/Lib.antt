pub mod Recursion
pub mod Basis
pub mod Factors
pub mod Accuracy
pub mod Figures
