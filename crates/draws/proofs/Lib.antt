-- Laws that several functions' proofs cite, here and in the crates above.
pub mod Drawing
pub mod Zero
