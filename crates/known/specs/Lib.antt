pub mod Known
pub mod Samples
