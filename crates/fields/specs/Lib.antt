-- The fields of a case file, RULES section 1: bytes, numbers, and a line of values.
pub mod Text
pub mod Split
pub mod Numbers
pub mod Values
