pub mod FeedLaws
pub mod Whole
pub mod Cases
