pub mod Rounds
pub mod Standing
