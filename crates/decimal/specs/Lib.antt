pub mod Ascii
pub mod Value
pub mod Text
pub mod Blanks
