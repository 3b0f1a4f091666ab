pub mod Abi
pub mod Lenses
