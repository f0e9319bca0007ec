-- What the proofs of several functions use.
pub mod FirstRead
pub mod LinesRead
