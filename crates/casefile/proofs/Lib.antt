-- The laws of the reader: the answers, and what the arrays then hold.
pub mod AnswerLaws
pub mod Arrays
