-- Laws that several functions' proofs cite.
pub mod Iteration
pub mod Over
