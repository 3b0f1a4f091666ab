-- Laws that proofs of several functions cite.
pub mod Past
pub mod Rows
