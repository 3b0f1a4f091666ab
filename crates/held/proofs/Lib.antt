-- Laws that several functions' proofs cite.
mod Stored
