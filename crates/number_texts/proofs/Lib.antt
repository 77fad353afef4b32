pub mod ReadBack
pub mod OneText
