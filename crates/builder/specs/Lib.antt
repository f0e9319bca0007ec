pub mod Build
pub mod Encode
pub mod BuildLaws
pub mod EncodeLaws
pub mod TreeBuildLaws
