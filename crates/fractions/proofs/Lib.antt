pub mod Examples
pub mod RatioLaws
pub mod EqualLaws
pub mod OrderLaws
pub mod Difference
pub mod FractionLaws
pub mod ApartLaws
