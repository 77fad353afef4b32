-- The case file of a case: its text, and what is stated of it.
pub mod Written
pub mod Statements
