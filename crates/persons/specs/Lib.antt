-- What is held for each person, and how a person is found.
pub mod Held
pub mod Search
