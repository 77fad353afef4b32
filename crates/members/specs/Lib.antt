-- The array of the members, and the loop over their lines.
pub mod Array
pub mod Stretch
