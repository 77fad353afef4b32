-- The laws of fields, from single bytes up to a line; Examples is what a reader looks for.
pub mod SplitLaws
pub mod StdWords
pub mod FieldLaws
pub mod LineLaws
pub mod AmountLaws
pub mod AnswerLaws
pub mod ValueLaws
pub mod KeyLaws
pub mod Examples
