-- The plan's own figures, RULES section 11, the sums over the array of the members' figures, and which engine works them.
pub mod Totals
pub mod Sums
pub mod Choice
