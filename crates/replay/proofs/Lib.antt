-- A law that proofs of several functions cite.
pub mod Tells
