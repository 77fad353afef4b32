-- What a row's line gives, and the loop over the rows.
pub mod Narrow
pub mod Stretch
