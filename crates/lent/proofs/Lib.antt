pub mod Ways
-- What the proofs of several functions use.
pub mod WriteLoops
pub mod OwnLoops
