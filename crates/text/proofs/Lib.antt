-- Laws that proofs cite.
pub mod Floats
pub mod FloatsOrZeros
