pub mod Xorshift
pub mod Draws
pub mod Laws
