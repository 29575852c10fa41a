pub mod Answer
pub mod Report
pub mod Conditions
pub mod Demand
