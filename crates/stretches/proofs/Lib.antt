-- A line of the walk, as a loop passes it, and the arrays that the loops fill.
pub mod StretchLaws
pub mod ArrayLaws
