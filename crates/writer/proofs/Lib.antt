-- Laws that no function owns; Copies is what a reader looks for.
pub mod FileLaws
pub mod Copies
