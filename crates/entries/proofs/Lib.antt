pub mod Written
pub mod OneNode
