pub mod Cases
pub mod Fields
pub mod OneLine
pub mod PageLaws
pub mod Putting
pub mod Answers
pub mod Inside
pub mod Meaning
