pub mod Acceptance
pub mod Rising
pub mod Lone
pub mod Valued
