-- What the proofs of several functions use.
pub mod Answers
pub mod RecordsCases
pub mod OwnPath
pub mod DealCases
