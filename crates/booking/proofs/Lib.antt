-- What holds of a booking; then what the proofs of several functions use.
pub mod BookingLaws
pub mod BookedLaws
pub mod BookedTreeLaws
pub mod AlreadyLaws
pub mod NeverAgain
pub mod TreeBookingLaws
pub mod KeepingSlot
pub mod FirstRefusal
pub mod Deciding
pub mod Outcome
