pub mod Total
pub mod Inspect
