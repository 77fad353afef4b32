-- What the heading's lines give, and the loop over them.
pub mod Words
pub mod Stretch
