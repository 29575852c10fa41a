pub mod OutletAnswer
pub mod Pairs
