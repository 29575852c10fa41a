pub mod Layout
pub mod Labelled
pub mod Prefix
pub mod UnitAt
pub mod Cut
pub mod LabelOrder
