-- What the proofs of several functions use.
pub mod PathsWritten
pub mod RecordWritten
pub mod Answers
