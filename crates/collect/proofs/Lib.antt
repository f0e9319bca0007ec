-- What holds of a collection; then what the proofs of several functions use.
pub mod MovesLaws
pub mod CodeLaws
pub mod CollectLaws
pub mod CollectRows
pub mod CollectPacked
pub mod CollectClear
pub mod OwnersLaws
pub mod TreeCollectLaws
pub mod Gathered
pub mod Entries
pub mod Owners
pub mod Turns
pub mod Refused
pub mod Outcome
