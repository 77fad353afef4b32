-- Laws that no function owns.
pub mod TextLaws
