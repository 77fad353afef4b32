-- What is printed, RULES section 13: numbers and amounts; and what writing it leaves in a buffer.
pub mod Amounts
pub mod Puts
