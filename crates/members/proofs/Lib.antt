-- The laws of the members: the array, and the loop over the lines.
pub mod ArrayLaws
pub mod MemberLaws
