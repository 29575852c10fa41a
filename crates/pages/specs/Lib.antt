pub mod Field
pub mod Line
pub mod Page
pub mod Writing
pub mod Meaning
