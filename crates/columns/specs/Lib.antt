-- What the columns hold.
pub mod Columns
