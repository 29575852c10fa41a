pub mod Work
pub mod Search
pub mod Growth
