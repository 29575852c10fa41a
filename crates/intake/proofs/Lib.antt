pub mod Cases
pub mod WeightCases
pub mod StateLaws
pub mod LineLaws
pub mod Laws
pub mod BadLines
pub mod Weights
pub mod CellLines
