pub mod StrayBits
pub mod StrayBitsLaws
