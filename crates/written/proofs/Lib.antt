-- The laws of a case's text, from values up to the whole file; Theorems, Lengths and Longest are what a reader looks for.
pub mod ValueTexts
pub mod TermTexts
pub mod LineTexts
pub mod Closing
pub mod NoBreaks
pub mod Reading
pub mod Writing
pub mod RowsOfFour
pub mod Lengths
pub mod Longest
pub mod Fits
pub mod Theorems
