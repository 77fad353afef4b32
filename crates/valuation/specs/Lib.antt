-- A whole plan, RULES sections 12 and 13: the answer, with the buffer. What is stated of it is the crate statements.
pub mod Answers
