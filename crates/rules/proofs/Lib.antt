-- The laws of the rules.
pub mod RuleLaws
pub mod RefusalLaws
pub mod TermLaws
