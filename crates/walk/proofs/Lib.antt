-- The laws of the walk, from outcomes up to the whole file; Theorems, Rests, SumRests, NoAdditions and Accepted are what a reader looks for.
pub mod OutcomeLaws
pub mod LineLaws
pub mod FoldLaws
pub mod RangeLaws
pub mod StepLaws
pub mod Theorems
pub mod Rests
pub mod SumRests
pub mod NoAdditions
pub mod Accepted
