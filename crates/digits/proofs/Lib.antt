pub mod Places
pub mod LastDigit
pub mod Written
pub mod Numbers
pub mod NumberPlaces
pub mod LabelPlaces
pub mod Inverse
pub mod Cases
