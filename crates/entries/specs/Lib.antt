pub mod Checksum
pub mod Entry
pub mod EntryLaws
pub mod KindLaws
pub mod MadeLaws
pub mod Answers
