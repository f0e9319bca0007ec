-- What the proofs of several functions use, and the laws of the two routines' answers.
pub mod ByteFormulas
pub mod WordFormulas
pub mod WriteLoops
pub mod Answers
pub mod UnpadAnswerLaws
pub mod Returns
