-- What is stated of the exports beside their contracts.
pub mod Statements
