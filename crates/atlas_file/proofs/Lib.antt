pub mod Cases
pub mod Fit
pub mod Pages
pub mod Meaning
