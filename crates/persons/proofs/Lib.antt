-- The laws of what is held for a person, of a search, and of a line more.
pub mod HeldLaws
pub mod SearchLaws
pub mod LineLaws
