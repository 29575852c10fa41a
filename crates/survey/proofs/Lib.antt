pub mod BasinIndex
pub mod Survey
