pub mod Labels
pub mod InOrder
pub mod Steps
pub mod Calls
pub mod Demand
pub mod Cases
pub mod LabelOrder
