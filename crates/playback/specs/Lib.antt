pub mod Ledger
pub mod Playback
pub mod Played
pub mod Steps
pub mod RowBytes
pub mod LedgerLaws
