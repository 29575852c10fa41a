pub mod Levy
pub mod FromIntake
pub mod Steps
pub mod Meaning
