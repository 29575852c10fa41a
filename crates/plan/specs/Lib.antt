pub mod Plan
pub mod Steps
pub mod Meaning
