-- A whole case in plain values: its first refusal, and what is stated of it.
pub mod Refusing
pub mod Statements
