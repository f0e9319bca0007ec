pub mod Answers
pub mod AnswerLaws
pub mod Choice
pub mod Refusals
pub mod RefusalLaws
pub mod Search
pub mod SearchLaws
