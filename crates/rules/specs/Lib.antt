pub mod Refusals
pub mod Outcome
pub mod Rules
pub mod Heading
