pub mod Places
pub mod Answers
pub mod Judged
pub mod PairNumbers
pub mod Cases
