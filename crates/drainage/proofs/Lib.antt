pub mod Outcomes
pub mod Lists
pub mod Ways
pub mod Gathering
pub mod Measures
pub mod Kept
pub mod Ones
