pub mod Answer
pub mod Lines
pub mod Feed
pub mod Pieces
