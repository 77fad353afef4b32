-- Demand 3, roll-forward and the equal forms of the liability (RollForward, EqualForms), and the limits (Quotients, Limits); what an accepted member shows (Needs), and the answer for plain values (Answers).
pub mod RollForward
pub mod EqualForms
pub mod Quotients
pub mod Limits
pub mod Needs
pub mod Answers
