pub mod Setting
pub mod Costs
pub mod Demand3
pub mod Valuation
pub mod Figures
