-- What the functions compute: `Basic`, `Sqrt`, `Exp`.
pub mod Basic
pub mod Sqrt
pub mod Exp
-- Steps of the proofs.
pub mod Constants
pub mod Steps
pub mod BasicLaws
