-- The laws of the rows: a line, and the loop over the lines.
pub mod LineLaws
pub mod RowLaws
