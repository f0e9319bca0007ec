-- What holds of a cancellation; then what the proofs of several functions use.
pub mod CancelLaws
pub mod OwnerCancelLaws
pub mod TreeCancelLaws
pub mod Outcome
