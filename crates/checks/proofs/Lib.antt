pub mod Targets
pub mod Joined
