pub mod Sizes
pub mod Steps
pub mod LowestBits
