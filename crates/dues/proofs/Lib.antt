pub mod Cases
pub mod Shares
pub mod Sharing
pub mod BasinUnits
pub mod BasinParts
pub mod PartWeights
pub mod UnitWeights
pub mod Meaning
