pub mod GatherTurn
