pub mod Cases
pub mod FaultLaws
pub mod Neither
