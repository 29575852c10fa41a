pub mod Answers
pub mod TakeWhile
pub mod ValueLaws
pub mod TextLaws
pub mod ReadBack
pub mod Blanks
pub mod Cases
