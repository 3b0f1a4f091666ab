pub mod Lens
