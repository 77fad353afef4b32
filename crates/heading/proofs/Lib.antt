-- The laws of the heading's lines, and of the loop over them.
pub mod LineLaws
pub mod HeadLaws
