pub mod Units
pub mod Index
pub mod Groups
pub mod Steps
pub mod FromIntake
pub mod Meaning
