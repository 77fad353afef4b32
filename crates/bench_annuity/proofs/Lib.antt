mod Stored
mod RowLaws
