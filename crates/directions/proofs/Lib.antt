pub mod Sizes
pub mod Signed
pub mod Steps
pub mod Neighbours
pub mod LowestBits
