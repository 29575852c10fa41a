pub mod Places
pub mod Codes
pub mod PairsCodes
pub mod PlanCodes
