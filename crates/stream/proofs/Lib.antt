pub mod HeightTurns
pub mod NodeParts
pub mod BlockSizes
pub mod Blocks
pub mod PieceTurns
pub mod RunningLaws
mod PackedLaws
