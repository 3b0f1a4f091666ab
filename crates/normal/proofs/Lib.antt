-- Laws that belong to no one function.
pub mod Parts
pub mod Sums
pub mod Triangle
pub mod Turns
pub mod System
pub mod Upward
pub mod Filled
pub mod Exchange
pub mod Reduce
pub mod Stages
pub mod Solving
pub mod Attempts
pub mod Kept
pub mod Whole
