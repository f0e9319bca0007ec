pub mod Writes
pub mod Collect
pub mod Ready
pub mod WritesLaws
pub mod ZerosLaws
pub mod AnswerLaws
pub mod Collectable
