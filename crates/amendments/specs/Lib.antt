-- Amendments: which are in force, the plan as it is valued, their rules, and what is stated of them.
pub mod Force
pub mod Judging
pub mod Statements
