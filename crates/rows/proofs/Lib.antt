-- Laws that several functions' proofs cite.
pub mod Refused
pub mod Undamaged
