pub mod Passing
pub mod Working
pub mod Answers
