-- What the proofs of several functions use, and the laws of comparing.
pub mod PathLoops
pub mod CompareLaws
pub mod CompareOwnLaws
