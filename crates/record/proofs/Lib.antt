-- What the proofs of several functions use.
pub mod Tests
pub mod CheckCases
pub mod JudgeCases
pub mod ParseCases
