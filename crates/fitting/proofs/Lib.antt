pub mod FittingLaws
