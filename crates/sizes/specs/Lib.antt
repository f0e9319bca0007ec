pub mod Sizes
pub mod SizesLaws
pub mod AreaLaws
pub mod Numbers
