-- Laws that no function owns; Exactly is what a reader looks for.
pub mod OrderLaws
pub mod TurnLaws
pub mod Exactly
