-- The array of the members' figures.
pub mod Worked
