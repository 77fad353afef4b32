-- The array of the amendments, and what the loop over their lines promises.
pub mod Array
pub mod Stretch
