-- Whole files and their answers.
pub mod Examples
