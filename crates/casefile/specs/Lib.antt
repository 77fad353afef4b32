-- What the reader of case files answers, with the arrays that it fills.
pub mod Answers
pub mod Stored
