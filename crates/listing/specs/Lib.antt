pub mod Listing
pub mod Writing
pub mod Steps
pub mod AsBefore
pub mod Labelled
