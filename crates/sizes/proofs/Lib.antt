pub mod OffsetTest
pub mod NextPower
