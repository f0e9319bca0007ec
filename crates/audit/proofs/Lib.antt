pub mod Judged
pub mod Written
