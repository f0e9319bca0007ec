-- What the proofs of several functions use.
pub mod Rows
pub mod LanesAbove
pub mod RowPairs
pub mod Levels
