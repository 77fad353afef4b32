-- The laws of amendments: a list as the code holds it, what an accepted list keeps, and what is in force.
pub mod ListLaws
pub mod Keeping
pub mod Putting
