pub mod Asked
pub mod Proved
