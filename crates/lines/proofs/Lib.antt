pub mod ColumnLaws
pub mod FieldLaws
pub mod ValuesLaws
pub mod OtherBytes
pub mod Blanks
pub mod Cases
