-- The laws of the benefit.
pub mod WeightLaws
pub mod BenefitLaws
pub mod BenefitNeeds
pub mod RiseLaws
