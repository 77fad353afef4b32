-- The laws of the amendments' lines: the array, what is refused of one, and the loop over them.
pub mod ArrayLaws
pub mod RefusalLaws
pub mod AmendLaws
