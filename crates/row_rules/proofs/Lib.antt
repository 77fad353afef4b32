-- The laws of the rows.
pub mod TableLaws
