pub mod Network
pub mod Positions
pub mod Keys
pub mod Places
