pub mod Log
pub mod LineAt
pub mod LineAtLaws
pub mod LineFits
pub mod LogLaws
pub mod LogCanonical
