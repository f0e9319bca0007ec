pub mod ListLaws
pub mod Room
pub mod Decide
pub mod OverlapLaws
pub mod RoomLaws
pub mod DecideLaws
