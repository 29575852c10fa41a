pub mod Intake
pub mod Weights
pub mod Takes
pub mod CellLines
