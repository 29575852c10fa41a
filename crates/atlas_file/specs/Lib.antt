pub mod Atlas
pub mod Meaning
