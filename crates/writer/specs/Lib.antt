-- The case file of plain values, or their refusal, and what is stated of it.
pub mod Files
pub mod Statements
