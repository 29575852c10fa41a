pub mod Cases
pub mod LabelText
pub mod Lengths
pub mod Putting
pub mod Answers
pub mod AsBefore
