-- Laws that no function owns.
pub mod PrintedLaws
pub mod LineLengths
