-- The lines of a report, RULES section 13, and the same lines from the arrays that the code keeps.
pub mod Lines
pub mod MemberLines
