pub mod Labelling
pub mod FromIntake
pub mod Demand
