pub mod Numbers
pub mod Weights
pub mod Benefit
pub mod Ranges
pub mod Rising
