pub mod Node
pub mod PaddingBlock
pub mod PaddingBlockLaws
pub mod Every
