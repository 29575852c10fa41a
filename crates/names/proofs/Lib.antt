pub mod NamesLaws
pub mod OtherBytes
pub mod Cases
pub mod WeightName
pub mod SizeNames
