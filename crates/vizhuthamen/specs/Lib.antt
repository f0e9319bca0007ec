pub mod Export
pub mod PlayedLog
pub mod StreamCalls
pub mod CallsCutAnywhere
pub mod RawArchive
pub mod RawByParts
