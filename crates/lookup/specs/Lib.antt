pub mod Answer
pub mod Lookup
pub mod Padded
pub mod PaddedHalves
pub mod Exactly
