pub mod ValidKind
pub mod SlotAnswers
pub mod Naming
pub mod View
pub mod Counting
