pub mod Answers
pub mod Evaluating
