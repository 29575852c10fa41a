pub mod Fields
pub mod Columns
pub mod Values
pub mod Blanks
