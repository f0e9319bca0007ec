pub mod Table
pub mod FieldAt
pub mod Spans
pub mod TableLaws
pub mod FieldAtLaws
pub mod SpansLaws
pub mod WrittenLaws
