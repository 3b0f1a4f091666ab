-- Laws that belong to no one function.
pub mod Few
pub mod Kept
pub mod Differences
pub mod Stepping
pub mod AttemptsLeft
pub mod Trying
pub mod Advances
