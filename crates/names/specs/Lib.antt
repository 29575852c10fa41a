pub mod Columns
pub mod Names
pub mod SizeNames
