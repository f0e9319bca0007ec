pub mod Cancel
pub mod Cancels
